-- The comparison of GUIDs is a total order whose equality is that of the lists of bytes.
use Rattle.std.specs.Prelude.{◌≡◌, true, false}
use Rattle.std.specs.declared.cmp.Ordering.{Ordering}
use Rattle.std.specs.declared.cmp.Ordering.TheVariants.{Less, Equal, Greater}
use Rattle.std.specs.Cmp.Lexicographic.{lists_ties, bytes_decides}
use Rattle.std.specs.Ordering.{nat_cmp, is_eq, is_lt, ordering_reverse}
use Rattle.std.proofs.Common.{refl, sym, ap, ◌∙◌, rules}
use Rattle.std.proofs.lemmas.Cmp.{nat_list_cmp_total, tied_itself, eq_by_cmp_equiv}
use Rattle.guids.specs.Guid.{Guid, compare_guid, same_guid, before}

is_less : (o : Ordering) → is_lt o ≡ true → o ≡ Less
is_less Less e = refl
is_less Equal e = cc
is_less Greater e = cc

third : (o : Ordering) → is_eq o ≡ false → is_lt o ≡ false → is_lt (ordering_reverse o) ≡ true
third Less e f = sym f
third Equal e f = sym e
third Greater e f = refl

pub same_refl : (a : Guid) → same_guid a a ≡ true
unfolding compare_guid same_guid
same_refl a = ap is_eq (tied_itself nat_list_cmp_total a)

pub same_eq : (a b : Guid) → same_guid a b ≡ true → a ≡ b
unfolding compare_guid same_guid
same_eq a b e = (bytes_decides a b).0 (lists_ties nat_cmp (λ x y. search rules) a b ∙ e)

pub same_sym : (a b : Guid) → same_guid b a ≡ same_guid a b
unfolding compare_guid same_guid
same_sym a b = (eq_by_cmp_equiv nat_list_cmp_total).symm b a

pub before_irrefl : (a : Guid) → before a a ≡ false
unfolding compare_guid before
before_irrefl a = ap is_lt (tied_itself nat_list_cmp_total a)

-- exactly one of three: a before b, a same as b, b before a
pub before_not_same : (a b : Guid) → before a b ≡ true → same_guid a b ≡ false
unfolding before same_guid
before_not_same a b e = ap is_eq (is_less (compare_guid a b) e)

pub after_not_same : (a b : Guid) → before b a ≡ true → same_guid a b ≡ false
after_not_same a b e = same_sym b a ∙ before_not_same b a e

pub trichotomy : (a b : Guid) → same_guid a b ≡ false → before a b ≡ false → before b a ≡ true
unfolding compare_guid before same_guid
trichotomy a b e f = ap is_lt (nat_list_cmp_total.antisymm b a) ∙ third (compare_guid a b) e f

pub before_trans : (a b c : Guid) → before a b ≡ true → before b c ≡ true → before a c ≡ true
unfolding compare_guid before
before_trans a b c x y = ap is_lt (nat_list_cmp_total.trans a b c (is_less (compare_guid a b) x) (is_less (compare_guid b c) y))
