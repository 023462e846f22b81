-- Every chain of calls from a new history answers as the model of the source.
use Prim.{Unit}
use Prim.Native.Nat.{ℕ, suc, ◌≤◌}
use mathlib.Core.Path.{◌≡◌, refl, sym, ap, subst, ◌∙◌}
use mathlib.Core.Bool.{Bool, true, false}
use mathlib.Core.List.{List, [], ◌∷◌, ◌++◌, map}
use lib.ListN.{length, drop}
use Rattle.laws.specs.Answer.{Answer, refused, answered}
use Rattle.laws.specs.Lists.{list_all}
use Rattle.rules.specs.Entry.{set_end, is_sample_w, is_sample}
use Rattle.rules.specs.declared.entry.What.{What}
use Rattle.rules.specs.declared.entry.What.TheVariants.{Sample, End}
use Rattle.rules.specs.declared.entry.Entry.{Entry}
use Rattle.rules.specs.State.{State, fresh}
use Rattle.rules.specs.Offer as O
use Rattle.rules.specs.declared.call.Fate.{Fate}
use Rattle.rules.specs.Release.{Outcome, release}
use Rattle.rules.specs.Run.{Call, offers, heartbeats, gaps, releases, Said, is_refused, is_offered, is_done, is_released, said_offer, said_done, said_release, place_w, nothing_waits, waiting}
use Rattle.rules.specs.Run as D
use Rattle.rules.specs.Claim.{outcome_of, takes}
use Rattle.laws.proofs.Lists.{and_left, and_right, not_both}
use Rattle.rules.proofs.Fates.{takes_samples}
use Rattle.history.specs.Chain.{Done, did_offer, did_heartbeat, did_gap, did_release, Chain, call_of, Agrees, AllAgree, CodeDemand3}
use Rattle.history.specs.Chain as C
use Rattle.history.proofs.Chained.{code_demand3}
use Rattle.source_model.specs.Source.{item_of}
use Rattle.source_model.specs.Calls.{Told, item_w, handed, told}
use Rattle.source_model.specs.Claim.{SameRun}
use Rattle.source_model.proofs.Steps.{source_alike}
use Rattle.sameness.specs.Same.{place_of, counted, written, Answers, AllAnswer, none, more, CodeSameRun}

-- ---- what a release hands out are samples

abbrev pub plain : Said ℕ → Bool
plain (is_refused n) = true
plain (is_offered f) = true
plain is_done = true
plain (is_released out lost) = list_all (λ e. is_sample e) out

plain_release : (a : Answer (Outcome ℕ)) → list_all (λ e. is_sample e) (outcome_of a).out ≡ true → plain (said_release a) ≡ true
plain_release (refused n) h = refl
plain_release (answered r) h = h

plain_offer : (a : Answer Fate) → plain (said_offer a) ≡ true
plain_offer (refused n) = refl
plain_offer (answered f) = refl

plain_done : (a : Answer (Unit {0})) → plain (said_done a) ≡ true
plain_done (refused n) = refl
plain_done (answered f) = refl

pub plain_step : (s : State ℕ) (c : Call ℕ) → plain (D.step s c).0 ≡ true
unfolding D.step takes
plain_step s (offers o) = plain_offer (O.offer s o).0
plain_step s (heartbeats h) = plain_done (O.heartbeat s h).0
plain_step s (gaps g) = plain_done (O.gap s g).0
plain_step s (releases now v l) = plain_release (release s v now (length l)).0 (takes_samples s (releases now v l)).0

-- ---- one answer

item_place : (r : ℕ) (w : What ℕ) → is_sample_w w ≡ true → (l : List (ℕ × ℕ)) → map (λ x. place_of x) (item_of (item_w w) r l) ≡ place_w r w ∷ map (λ x. place_of x) l
unfolding place_of
item_place r (Sample i) h l = refl
item_place r (End u) h l = not_both false h refl

item_length : (r : ℕ) (w : What ℕ) → is_sample_w w ≡ true → (l : List (ℕ × ℕ)) → length (item_of (item_w w) r l) ≡ suc (length l)
item_length r (Sample i) h l = refl
item_length r (End u) h l = not_both false h refl

places : (out : List (Entry ℕ)) → list_all (λ e. is_sample e) out ≡ true → map (λ x. place_of x) (handed out) ≡ map (λ e. D.place_of e) out
unfolding handed is_sample D.place_of
places [] h = refl
places (e ∷ out) h = item_place e.reader e.what (and_left (is_sample_w e.what) _ h) (handed out) ∙ ap (λ l. place_w e.reader e.what ∷ l) (places out (and_right (is_sample_w e.what) _ h))

many : (out : List (Entry ℕ)) → list_all (λ e. is_sample e) out ≡ true → length (handed out) ≡ length out
unfolding handed is_sample
many [] h = refl
many (e ∷ out) h = item_length e.reader e.what (and_left (is_sample_w e.what) _ h) (handed out) ∙ ap suc (many out (and_right (is_sample_w e.what) _ h))

pub counted_same : (a : Said ℕ) → plain a ≡ true → C.counted a ≡ counted (told a)
counted_same (is_refused n) h = refl
counted_same (is_offered f) h = refl
counted_same is_done h = refl
counted_same (is_released out lost) h = ap answered (sym (many out h))

pub written_same : (a : Said ℕ) (l : List ℕ) → plain a ≡ true → D.written a l ≡ written (told a) l
written_same (is_refused n) l h = refl
written_same (is_offered f) l h = refl
written_same is_done l h = refl
written_same (is_released out lost) l h = ap (λ p. p ++ drop (length out) l) (sym (places out h)) ∙ ap (λ n. map (λ x. place_of x) (handed out) ++ drop n l) (sym (many out h))

answers_one : (a : Said ℕ) (d : Done) → plain a ≡ true → Agrees a d → Answers (told a) d
unfolding Agrees Answers
answers_one a (did_offer o r) h x = ap (λ b. told b) x
answers_one a (did_heartbeat b r) h x = ap (λ b. told b) x
answers_one a (did_gap g r) h x = ap (λ b. told b) x
answers_one a (did_release ps ds now o r p) h x = (x.0 ∙ counted_same a h, x.1 ∙ written_same a o h)

-- ---- the whole chain

all_answer : (cs : List (Call ℕ)) (s : State ℕ) (ds : List Done) → AllAgree (D.answers s cs) ds → AllAnswer (map (λ a. told a) (D.answers s cs)) ds
unfolding D.answers
all_answer [] s [] C.none = none
all_answer (c ∷ cs) s (d ∷ ds) (C.more x rest) = more (answers_one (D.step s c).0 d (plain_step s c) x) (all_answer cs (D.step s c).1 ds rest)
all_answer [] s (d ∷ ds) x'' = elim x'' [ ]
all_answer (c ∷ cs) s [] x3 = elim x3 [ ]

pub code_alike : (turns t : ℕ) (s : State ℕ) (ds : List Done) → 513 ≤ turns → Chain (fresh t) ds s → CodeSameRun turns t ds s
code_alike turns t s ds f c =
    let d : CodeDemand3 t ds s c = code_demand3 t s ds c in
    let cs : List (Call ℕ) = map (λ d. call_of d) ds in
    let a : SameRun turns t cs = source_alike turns t cs f in
    record {
      answers_are = subst (λ (q : List (Told ℕ)). AllAnswer q ds) (sym a.answers_same) (all_answer cs (fresh t) ds d.answers_are);
      counts_are = ap (λ (s : State ℕ). s.counts) d.state_is ∙ a.counts_same;
      counts_exact = λ h. ap (λ (s : State ℕ). s.counts) d.state_is ∙ a.counts_exact h;
      empty_is = ap (λ s. nothing_waits s) d.state_is ∙ a.empty_is;
      waiting_is = λ r. ap (λ s. waiting s r) d.state_is ∙ a.waiting_is r;
    }
