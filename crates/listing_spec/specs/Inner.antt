-- What need not be believed to read the contracts of public calls: what only inner functions ask and promise.
pub mod Heads
pub mod Sizes
