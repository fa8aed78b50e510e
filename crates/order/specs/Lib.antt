-- A line of text as an order, to be read in this order. Nothing is proved here.
pub mod Orders
pub mod Steps
