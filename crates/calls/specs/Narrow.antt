-- The samples whose places print as they are.
use Rattle.std.specs.Prelude.{ℕ, ◌+◌, ◌^◌, ◌≡◌, Bool, ◌&&◌, not, ltb}
use Rattle.laws.specs.Lists.{count}
use Rattle.rules.specs.declared.entry.Entry.{Entry}
use Rattle.rules.specs.declared.entry.What.{What}
use Rattle.rules.specs.Entry.{is_sample_w}
use Rattle.rules.specs.State.{State}
use Rattle.calls.specs.Run.{item_w}

-- a sample whose place doesn't hold its reader in a byte and its item in 32 bits
unfoldable pub wide_w : ℕ → What ℕ → Bool
wide_w r w = is_sample_w w && not (ltb r 256 && ltb (item_w w) (2 ^ 32))

unfoldable pub wide : Entry ℕ → Bool
wide e = wide_w e.reader e.what

-- none is stored
unfoldable pub Narrow : State ℕ → Type 0
Narrow s = count (λ e. wide e) s.pending + count (λ e. wide e) s.held ≡ 0
