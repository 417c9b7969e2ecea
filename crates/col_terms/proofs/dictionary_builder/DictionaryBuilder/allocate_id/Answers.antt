use Rattle.std.proofs.Common.{length, ◌++◌, ◌∷◌, [], ap, sym, ◌∙◌, subst, arith}
use Rattle.col_terms.specs.Building.{is_known}
use Rattle.col_terms.specs.Hashing.{AreHashed, IsPlaced}
use Rattle.col_terms.proofs.ChainLemmas.{hashed-apart, hashed-kept, hashed-more}
use Rattle.col_terms.proofs.PlaceLemmas.{allocates-new}
use Rattle.col_terms.proofs.dictionary_builder.DictionaryBuilder.allocate_id.Goals as goal

pub invariant_of-self-in_err-place : goal.invariant_of-self-in_err-place
invariant_of-self-in_err-place c =
    let ts = c.self.inside.terms in
    let t = c.args.term.now in
    hashed-apart ts t c.reserve.new.self c.self.inside.apart c.place_new.new.apart
    (hashed-kept ts c.self.inside.chains c.reserve.new.self c.self.inside.apart c.self.invariant c.in_ok-reserve.ensures.kept)
    c.place_new.ensures.others (ap (λ us. is_known us t) c.self.view_is ∙ c.requires.new)

pub invariant_of-self-in_err-push : goal.invariant_of-self-in_err-push
invariant_of-self-in_err-push c =
    let ts = c.self.inside.terms in
    let t = c.args.term.now in
    subst (λ us. AreHashed us c.reserve.new.self c.place_new.new.apart) (sym c.in_err-push.ensures.kept)
    (hashed-apart ts t c.reserve.new.self c.self.inside.apart c.place_new.new.apart
    (hashed-kept ts c.self.inside.chains c.reserve.new.self c.self.inside.apart c.self.invariant c.in_ok-reserve.ensures.kept)
    c.place_new.ensures.others (ap (λ us. is_known us t) c.self.view_is ∙ c.requires.new))

pub invariant_of-self-2 : goal.invariant_of-self-2
invariant_of-self-2 c =
    let ts = c.self.inside.terms in
    let t = c.args.term.now in
    let m = c.place_new.new.apart in
    let kept = hashed-kept ts c.self.inside.chains c.reserve.new.self c.self.inside.apart c.self.invariant c.in_ok-reserve.ensures.kept in
    let fresh = ap (λ us. is_known us t) c.self.view_is ∙ c.requires.new in
    let apart = hashed-apart ts t c.reserve.new.self c.self.inside.apart m kept c.place_new.ensures.others fresh in
    subst (λ us. AreHashed us c.push-2.new.self m) (sym c.in_ok-push.ensures.ok)
    (hashed-more ts t c.reserve.new.self c.push-2.new.self m c.in_ok-place.place apart c.push-2.ensures
    (subst (λ id. IsPlaced m t id c.in_ok-place.place) c.len-id.ensures c.in_ok-place.ensures.placed) fresh
    (omega (arith, ap length c.self.view_is, c.requires.room)))

pub returns-clause-ok : goal.returns-clause-ok
returns-clause-ok c =
    let t = c.args.term.now in
    let many = c.len-id.ensures ∙ ap length c.self.view_is in
    allocates-new c.args.self.now t c.len-id.result c.push.new.self c.requires.new many
    (c.in_ok-push.ensures.ok ∙ ap (λ ts. ts ++ t ∷ []) c.self.view_is)
