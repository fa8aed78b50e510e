-- A setup's clients as sets: one client more, and their members.
pub mod Sets
pub mod Members
