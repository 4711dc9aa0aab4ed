mod Numbers
mod Naming
mod Reading
mod Distinct
