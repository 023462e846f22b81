-- What a commit does to an entry.
use Rattle.std.proofs.Common.{◌≡◌, ℕ, List, [], ◌∷◌, ◌++◌, length, Bor, sym, ap, subst, ◌∙◌}
use Rattle.std.proofs.lemmas.List.{map-append}
use Rattle.std.specs.Prelude.{ℤ, ◌&&◌, Option, Some, None, MatchOption, option_map}
use Rattle.rules.specs.declared.entry.Entry.{Entry}
use Rattle.laws.specs.Lists.{find}
use Rattle.rules.specs.Entry.{marks}
use Rattle.rules.specs.Offer.{shares, keep_end}
use Rattle.rules.specs.declared.entry.What.{What}
use Rattle.rules.specs.declared.entry.What.TheVariants.{Sample, End}
use Rattle.rules.specs.declared.entry.SetEnd.{SetEnd}
use Rattle.rules.specs.Release.{Work, mark_or, settle, with_held, with_out, discard_stale, commit_one}
use Rattle.rules.specs.Run.{place_of}
use Rattle.sets.specs.declared.Sets.{Sets}
use Rattle.sets.specs.Works.{Carries, Goes, GoesSets}
use Rattle.rules.specs.Sets.{lowest_stale}
use Rattle.release.proofs.Discarding.{stale_stop}

pub mark_is : (t : ℕ) (found : Option (Bor (Entry ℕ))) (r : Option ℕ) (o : Option (Entry ℕ)) → option_map (λ m. m.now) found ≡ o → MatchOption found (r ≡ Some t) (λ m. r ≡ m.now.ended) → r ≡ mark_or t o
mark_is t None r o e h = h ∙ ap (mark_or t) e
mark_is t (Some m) r o e h = h ∙ ap (mark_or t) e

module _ (e : Entry ℕ) (s : Sets) (o : List ℕ) where
  settled : (x : What ℕ) (z : Option ℤ) (t : Sets) (p : List ℕ) → e.what ≡ x → e.set ≡ z → Goes (λ w. settle e w x z) s o t p → Goes (λ w. settle e w e.what e.set) s o t p
  settled x z t p a b h w c = subst (λ (v : Work ℕ). Carries t p v) (sym (ap (λ y. settle e w y e.set) a ∙ ap (λ y. settle e w x y) b)) (h w c)

  -- a plain sample is handed out
  pub settle_out : (x : ℕ) (p : List ℕ) → e.what ≡ Sample x → e.set ≡ None → p ≡ o ++ (place_of e ∷ []) → Goes (λ w. settle e w e.what e.set) s o s p
  unfolding with_out
  settle_out x p a b q =
      settled (Sample x) None s p a b
      (λ w c. record { held = c.held; counts = c.counts; out = q ∙ ap (λ l. l ++ (place_of e ∷ [])) c.out ∙ sym (map-append (λ y. place_of y) w.out (e ∷ [])) })

  -- a member joins its set
  pub settle_member : (x : ℕ) (z : ℤ) (t : Sets) → e.what ≡ Sample x → e.set ≡ Some z → t.held.items ≡ s.held.items ++ (e ∷ []) → t.counts ≡ s.counts → Goes (λ w. settle e w e.what e.set) s o t o
  unfolding with_held
  settle_member x z t a b q k = settled (Sample x) (Some z) t o a b (λ w c. record { held = q ∙ ap (λ l. l ++ (e ∷ [])) c.held; counts = k ∙ c.counts; out = c.out })

  -- an end is kept
  pub settle_end : (u : SetEnd) (z : ℤ) (t : Sets) → e.what ≡ End u → e.set ≡ Some z
      → t.held.items ≡ keep_end (mark_or e.time (find (λ m. shares e m && marks m) s.held.items)) e s.held.items → t.counts ≡ s.counts → Goes (λ w. settle e w e.what e.set) s o t o
  unfolding with_held
  settle_end u z t a b q k =
      settled (End u) (Some z) t o a b
      (λ w c. record { held = q ∙ ap (λ l. keep_end (mark_or e.time (find (λ m. shares e m && marks m) l)) e l) c.held; counts = k ∙ c.counts; out = c.out })

  -- after the discards, of which there may be none
  pub commit_after : (t u : Sets) (p : List ℕ) → GoesSets (λ w. discard_stale (length w.held) e w) s t → Goes (λ w. settle e w e.what e.set) t o u p → Goes (λ w. commit_one e w) s o u p
  unfolding commit_one
  commit_after t u p d g w c = g (discard_stale (length w.held) e w) (d o w c)

  pub commit_clean : (u : Sets) (p : List ℕ) → lowest_stale e s.held.items ≡ None → Goes (λ w. settle e w e.what e.set) s o u p → Goes (λ w. commit_one e w) s o u p
  commit_clean u p n g = commit_after s u p (λ q w c. rw (stale_stop e (length w.held) w (ap (lowest_stale e) (sym c.held) ∙ n)) c) g
