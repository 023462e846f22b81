-- GUIDs.
use Rattle.std.specs.Prelude.{ℕ, Bool, List}
use Rattle.std.specs.declared.cmp.Ordering.{Ordering}
use Rattle.std.specs.Ordering.{nat_cmp, is_eq, is_lt}
use Rattle.std.specs.Cmp.Lexicographic.{slice_cmp}

-- sixteen bytes (document 01, Operations)
abbrev pub Guid : Type 0
Guid = List ℕ

-- the one comparison: byte by byte, from the first; the first that differs decides (document 01, Operations)
unfoldable pub compare_guid : Guid → Guid → Ordering
compare_guid a b = slice_cmp nat_cmp a b

unfoldable pub same_guid : Guid → Guid → Bool
same_guid a b = is_eq (compare_guid a b)

unfoldable pub before : Guid → Guid → Bool
before a b = is_lt (compare_guid a b)
