mod Endings
mod Unread
mod Asking
