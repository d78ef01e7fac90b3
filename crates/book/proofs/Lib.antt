mod Cases
mod Places
mod Grouped
mod Kept
mod Traded
mod Dayed
mod Steps
mod Main
