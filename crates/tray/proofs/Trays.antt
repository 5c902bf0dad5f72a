-- The laws of the tray: a sample changes its seat's record alone, and a refusal changes nothing.
use Prim.Native.Nat.{ℕ, ◌≤◌, ◌<◌}
use mathlib.Core.Path.{◌≡◌, sym}
use mathlib.Core.Bool.{false}
use mathlib.Core.List.{List}
use mathlib.Core.Logic.{◌≢◌}
use lib.Dec.{ltb}
use lib.ListN.{length, get_or, set, length-set, get_or-eq_default}
use lib.Seq.{set_out, set-get_or, get_or-set_other}
use native.Mathlib.Omega.{arith}
use Rattle.std.proofs.lemmas.Bool.Decides.{nat_tests}
use Rattle.tray.specs.declared.Seat.{Seat}
use Rattle.tray.specs.declared.Sample.{Sample}
use Rattle.tray.specs.Verdict.{Verdict}
use Rattle.std.specs.Prelude.{is_ok}
use Rattle.tray.specs.Seat.{fresh, verdict, after}
use Rattle.tray.specs.Tray.{is_present, reply_to, tray_after, Sampled}

module _ (tray : List Seat) (seat : ℕ) where
  pub present : seat < length tray → is_present tray seat ≡ ltb seat 64
  unfolding is_present
  present within = grind (arith, nat_tests)

  pub missing : length tray ≤ seat → is_present tray seat ≡ false
  unfolding is_present
  missing past = grind (arith, nat_tests)

module _ (tray : List Seat) (seat : ℕ) (s : Sample) where
  -- Every other record stays as it was.
  pub others_stay : (other : ℕ) → other ≢ seat → get_or (tray_after tray seat s) other fresh ≡ get_or tray other fresh
  unfolding tray_after
  others_stay other differs = get_or-set_other tray seat other _ fresh differs

  pub length_stays : length (tray_after tray seat s) ≡ length tray
  unfolding tray_after
  length_stays = length-set tray seat _

  -- A refusal changes nothing.
  pub refusal_leaves : is_ok (reply_to tray seat s) ≡ false → tray_after tray seat s ≡ tray
  unfolding tray_after reply_to after
  refusal_leaves refused = simp refused (set-get_or tray seat fresh)

  -- The contract of `take_sample`, for a seat in the tray and for any other.
  pub sampled_present : {left : Seat} {answer : Verdict} → seat < length tray → answer ≡ verdict (ltb seat 64) (get_or tray seat fresh) s
      → left ≡ after (ltb seat 64) (get_or tray seat fresh) s → Sampled tray seat s (set tray seat left) answer
  unfolding tray_after reply_to
  sampled_present within answers leaves = record { answers = rw (present tray seat within) answers; leaves = rw (present tray seat within, leaves) }

  pub sampled_missing : {answer : Verdict} → length tray ≤ seat → answer ≡ verdict false fresh s → Sampled tray seat s tray answer
  unfolding tray_after reply_to
  sampled_missing past known = record {
    answers = rw (missing tray seat past, get_or-eq_default tray fresh past) known;
    leaves = sym (set_out tray seat _ past);
  }
