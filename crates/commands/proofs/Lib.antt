mod Hosting
mod Limits
mod Reading
mod Replaying
mod Reports
mod Simulating
