-- Loops over places, lines, queues and rooms, and who is seen in them.
pub mod Queues
pub mod Once
pub mod Shape
pub mod LineTurns
pub mod Standing
pub mod Rooms
