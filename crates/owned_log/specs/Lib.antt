pub mod OwnedLogs
