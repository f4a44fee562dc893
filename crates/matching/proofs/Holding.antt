-- What a site's answer leaves as it was.
use Rattle.std.proofs.Common.{◌≡◌, ℕ, ◌<◌, ltb, List, set, Some, None, Option, sym, ap, ◌∙◌}
use Rattle.std.proofs.lemmas.List.{set-get_or}
use Rattle.std.proofs.lemmas.Bool.{lt-ltb, cond-true}
use Rattle.matching.specs.Answers.{refused_of, kept_of, counted, hold_in, asked_of}
use Rattle.matching.specs.declared.proposals.Hold.{Hold}
use Rattle.matching.specs.declared.proposals.Proposals.{Proposals}

-- where a site keeps its crew, only the refusals of the other change
pub asked_later : (p : Proposals) (site crew place : ℕ) (h : Hold) → hold_in p site ≡ Some h → h.place < place →
    record p { refusals = counted p.refusals (Some crew) } ≡ asked_of p crew site place
asked_later p site crew place h e l =
    let later = lt-ltb h.place place l in
    let refused : refused_of (hold_in p site) crew place ≡ Some crew =
    ap (λ o. refused_of o crew place) e ∙ ap Some (cond-true (ltb h.place place) crew h.crew later) in
    let kept : kept_of (hold_in p site) crew place ≡ hold_in p site =
    ap (λ o. kept_of o crew place) e ∙ cond-true (ltb h.place place) (Some h) (Some (record { crew = crew; place = place })) later ∙ sym e in
    let stays : set p.holds site (kept_of (hold_in p site) crew place) ≡ p.holds = ap (set p.holds site) kept ∙ set-get_or p.holds site None in
    let after : List ℕ → List (Option Hold) → Proposals = λ refusals holds. record { refusals = refusals; holds = holds } in
    ap (after (counted p.refusals (Some crew))) (sym stays) ∙ ap (λ o. after (counted p.refusals o) (set p.holds site (kept_of (hold_in p site) crew place))) (sym refused)
