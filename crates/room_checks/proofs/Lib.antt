-- 13 and 14, case by case.
pub mod Rooms
