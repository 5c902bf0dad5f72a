-- Document 01 promises that the comparison of two captures allows one outcome. `Contracts` proves it for the contracts of `leading` and
-- `stale`, as the code has them. It rests on `Laws`, which says what is returned and which captures are stale.
-- `Agreeing` has the laws of the number of agreeing bytes. `Laws` and the code use it.
-- `InParts` has those for captures that the code compares part by part, and `Words` those for eight bytes read as one number.
-- A folder with a function's name has the proof of that function.
pub mod Contracts
pub mod Laws
mod Agreeing
mod InParts
mod Words
