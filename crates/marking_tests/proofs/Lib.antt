mod Samples
mod PairSamples
