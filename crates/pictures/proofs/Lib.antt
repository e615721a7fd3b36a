mod LastRow
mod Prints
