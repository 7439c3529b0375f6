pub mod Fields
pub mod Forms
pub mod Memory
pub mod Table
