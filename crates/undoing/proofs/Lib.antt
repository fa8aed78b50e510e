-- Import after export gives the same log, and export after import the same text.
pub mod Heads
pub mod Written
pub mod Exported
pub mod Before
pub mod Shown
pub mod Grown
pub mod Imported
pub mod Small
