-- What the proofs of `log_report` share: a step, one record more, the charges, and the report.
pub mod Entering
pub mod Turns
pub mod Charges
pub mod Reports
