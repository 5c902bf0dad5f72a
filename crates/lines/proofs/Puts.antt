-- A text that is put into a buffer at a place. The buffer keeps its length.
use Prim.Native.Nat.{ℕ, ◌+◌}
use mathlib.Core.Path.{◌≡◌}
use mathlib.Core.List.{List}
use lib.ListN.{length}
use lib.Seq.{sets, length-sets}

-- a text was put into a buffer at a place, the rest of the buffer is as it was, and `next` is the place after the text
pub record Put (buffer : List ℕ) (at : ℕ) (text : List ℕ) (left : List ℕ) (next : ℕ) : Type 0 where
  pub content : left ≡ sets buffer at text
  pub place : next ≡ at + length text

pub put_length : {out : List ℕ} {at : ℕ} {xs left : List ℕ} {next : ℕ} → Put out at xs left next → length left ≡ length out
put_length {out} {at} {xs} p = rw p.content (length-sets out at xs)
