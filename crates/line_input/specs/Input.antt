-- The next line of an input, by the bytes that were read before and those that come meanwhile.
use Rattle.std.specs.Prelude.{ℕ, suc, ◌+◌, ◌-◌, ◌≤◌, ◌<◌, min, ◌≡◌, Bool, true, false, List, [], ◌++◌, ltb, length, take, drop, Option, None, Some, MatchOption, option_map, cond}
use Rattle.std.specs.Borrow.{Bor}
use Rattle.std.specs.Io.KnownBytes.{Consumes}
use Rattle.decimal.specs.Split.{before}
use Rattle.line_input.specs.declared.Lines.{Lines}
use Rattle.line_input.specs.declared.ahead.Ahead.{Ahead}

-- nothing is read, or all that was read is taken
abbrev pub IsUnread : Ahead → Type 0
IsUnread a = (a.at ≡ 0) × (a.count ≡ 0)

-- the bytes that were read and not yet taken
unfoldable pub left : Ahead → List ℕ
left a = drop a.at (take a.count a.chunk)

-- whether a newline is among them
unfoldable pub has_line : Ahead → Bool
has_line a = ltb (before 10 (left a)) (length (left a))

-- where the first newline of `s` stands, if there is one
abbrev pub IsEnd : List ℕ → Option ℕ → Type 0
IsEnd s r = MatchOption r (before 10 s ≡ length s) (λ n. (n ≡ before 10 s) × (n < length s))

-- a line that there is only where `more` is true
unfoldable pub line_if : Bool → List ℕ → Option (List ℕ)
line_if more line = cond more (Some line) None

-- what an answer shows
unfoldable pub shown : Option (Bor (List ℕ)) → Option (List ℕ)
shown r = option_map (λ s. s.now) r

-- the line that `s` begins with, cut to fit; where `s` has no byte the input has ended
unfoldable pub first_line : List ℕ → Option (List ℕ)
first_line s = line_if (ltb 0 (length s)) (take (min (before 10 s) 256) s)

-- that line is answered; what stands behind its newline is left
pub record LineOf (s : List ℕ) (r : Option (List ℕ)) (a' : Ahead) : Type 0 where
  pub line : r ≡ first_line s
  pub rest : left a' ≡ drop (suc (before 10 s)) s

-- standard input brings any bytes, `came`: none where a newline is left, else the chunk holds the last of them
pub record LineRead (a : Ahead) (r : Option (List ℕ)) (a' : Ahead) : Type 0 where
  pub came : List ℕ
  pub next : LineOf (left a ++ came) r a'
  pub here :
      before 10 (left a) < length (left a)
      → (came ≡ []) × (a'.chunk ≡ a.chunk) × (a'.at ≡ a.at + suc (before 10 (left a))) × (a'.count ≡ a.count)
  pub read : length (left a) ≤ before 10 (left a) → (earlier : List ℕ) × (came ≡ earlier ++ take a'.count a'.chunk)

-- where it is known which bytes a reader gives, those that came are its next ones
pub record LineTaken (known known' : Option (List ℕ)) (a : Ahead) (r : Option (List ℕ)) (a' : Ahead) : Type 0 where
  pub came : List ℕ
  pub read : Consumes known known' came
  pub next : LineOf (left a ++ came) r a'

-- both, and where a newline is left nothing is read
pub record NextLine {R : Type 0} (remaining : R → Option (List ℕ)) (l : Lines R) (r : Option (List ℕ)) (l' : Lines R) : Type 0 where
  pub read : LineRead l.ahead r l'.ahead
  pub taken : LineTaken (remaining l.reader) (remaining l'.reader) l.ahead r l'.ahead
  pub waits : has_line l.ahead ≡ true → l'.reader ≡ l.reader

-- a line and more of it, as far as it has room
unfoldable pub with_part : List ℕ → List ℕ → List ℕ
with_part line part = line ++ take (256 - length line) part

-- what is left of a line is taken, as far as it was read
pub record PartTaken {R : Type 0} (l : Lines R) (found : Bool) (l' : Lines R) : Type 0 where
  pub is_whole : found ≡ has_line l.ahead
  pub line : l'.line.items ≡ with_part l.line.items (take (before 10 (left l.ahead)) (left l.ahead))
  pub whole : found ≡ true → (l'.ahead.chunk ≡ l.ahead.chunk) × (l'.ahead.at ≡ l.ahead.at + suc (before 10 (left l.ahead))) × (l'.ahead.count ≡ l.ahead.count)
  pub begun : found ≡ false → IsUnread l'.ahead
  pub reader : l'.reader ≡ l.reader
