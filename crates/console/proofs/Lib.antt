-- `InTurn` says what reads one after the other gave. The loop of `fill` uses it.
mod InTurn
-- `Placing` says that what `memchr` finds is the first such byte. `place_of` uses it.
mod Placing
-- `Holding` says what is held after one more part. `hold` uses it.
mod Holding
