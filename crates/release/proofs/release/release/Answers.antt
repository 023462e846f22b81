use Rattle.std.proofs.Common.{arith, ◌≡◌, ◌∙◌, ◌<◌, sym, true, false, length, []}
use borrow.Author.Tests.{lt-ltb}
use Rattle.rules.specs.Offer.{refusal}
use Rattle.rules.specs.Release.{malformed, samples, release_refusal, release}
use Rattle.store.specs.Store.{state_of}
use Rattle.release.specs.Released.{release_to, view_of}
use Rattle.release.proofs.Groups.{released_none, answers}
use Rattle.release.proofs.release.release.Goals as goal

pub returns-then-is_malformed-clause-is : goal.returns-then-is_malformed-clause-is
unfolding release_to release release_refusal refusal
returns-then-is_malformed-clause-is c =
    let m : malformed (view_of c.args.counted.now c.args.digests.now) ≡ true = sym c.is_malformed.ensures ∙ c.if-is_malformed.true in
    rw m

pub returns-then-out-sample_count-clause-is : goal.returns-then-out-sample_count-clause-is
unfolding release_to release release_refusal refusal
returns-then-out-sample_count-clause-is c =
    let m : malformed (view_of c.args.counted.now c.args.digests.now) ≡ false = sym c.is_malformed.ensures ∙ c.if-is_malformed.false in
    let k : length c.args.out.now < samples (state_of c.args.store.now) = omega (arith, c.sample_count.ensures) in
    rw (m, lt-ltb (length c.args.out.now) (samples (state_of c.args.store.now)) k)

pub release_from-requires-clause-reached : goal.release_from-requires-clause-reached
release_from-requires-clause-reached c = c.first_to_go-first.ensures.reached c.args.store.now [] (released_none (view_of c.args.counted.now c.args.digests.now) c.args.time c.args.store.now)

pub release_from-requires-clause-formed : goal.release_from-requires-clause-formed
release_from-requires-clause-formed c = sym c.is_malformed.ensures ∙ c.if-is_malformed.false

pub returns-clause-is : goal.returns-clause-is
returns-clause-is c =
    let v = view_of c.args.counted.now c.args.digests.now in
    let s = c.args.store.now in
    let m : malformed v ≡ false = sym c.is_malformed.ensures ∙ c.if-is_malformed.false in
    let r = c.first_to_go-first.ensures.reached s [] (released_none v c.args.time s) in
    answers v c.args.time s c.first_to_go-first.result s [] (omega arith) r c.args.out.now m (omega (arith, c.sample_count.ensures))
