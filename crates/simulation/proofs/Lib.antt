mod GivenPages
mod Playing
mod Showing
