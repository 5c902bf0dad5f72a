-- What the contracts of `tray` cite: one seat's record (`Seat`), the tray (`Tray`), the answer numbers (`Verdict`).
pub mod Seat
pub mod Tray
pub mod Verdict
-- What the promise cites: the standard's procedures over a list of samples (`Standard`) and as loops (`Procedure`), and sequences of samples
-- to a tray (`Sequence`).
pub mod Standard
pub mod Procedure
pub mod Sequence
