-- What `gap` answers from the replies of `prev` and `next`: the contracts of its small functions.
use Rattle.std.specs.Prelude.{ℕ, ◌-◌, ◌+◌, min, Option, Some, None, Result, Ok, Err, option_map}
use Rattle.pretree.specs.declared.Header.{Header}
use Rattle.pretree.specs.declared.Answer.{Answer}
use Rattle.pretree.specs.declared.Answer.TheVariants.{Done, Serial, Word, Distance, WrongWidth, WrongHeader, WordTooWide, Damage, Full, ShortBuffer, AlreadyThere, NoSuchWord}
use Rattle.pretree.specs.declared.Reply.{Reply}
use Rattle.pretree.specs.declared.leg.Damaged.{Damaged}
use Rattle.pretree.specs.Leg.{damage}
use Rattle.pretree.specs.Reply.{refused, answered}

-- what an answer of `prev` or `next` says: its word, that there is none, or damage
abbrev pub neighbour : Answer → Result (Option ℕ) Damaged
neighbour (Word x) = Ok (Some x)
neighbour NoSuchWord = Ok None
neighbour Done = damage
neighbour (Serial s) = damage
neighbour (Distance d) = damage
neighbour WrongWidth = damage
neighbour WrongHeader = damage
neighbour WordTooWide = damage
neighbour Damage = damage
neighbour Full = damage
neighbour ShortBuffer = damage
neighbour AlreadyThere = damage

-- the smaller of two distances, or the only one there is
abbrev pub smaller : Option ℕ → Option ℕ → Option ℕ
smaller (Some a) (Some b) = Some (min a b)
smaller (Some a) None = Some a
smaller None b = b

-- the distance from k to the nearer of its neighbours
abbrev pub distance : ℕ → Result (Option ℕ) Damaged → Result (Option ℕ) Damaged → Result (Option ℕ) Damaged
distance k (Ok below) (Ok above) = Ok (smaller (option_map (λ x. k - x) below) (option_map (λ x. x - k) above))
distance k (Ok below) (Err d) = Err d
distance k (Err d) above = Err d

-- the reply with that distance; n rows were read
abbrev pub gap_at : Header → ℕ → Result (Option ℕ) Damaged → Reply
gap_at h n (Ok (Some nearest)) = answered h (Distance nearest) n
gap_at h n (Ok None) = answered h NoSuchWord n
gap_at h n (Err d) = refused h Damage

unfoldable pub between : Header → ℕ → Reply → Reply → Reply
between h k lower upper = gap_at h (lower.rows + upper.rows) (distance k (neighbour lower.answer) (neighbour upper.answer))
