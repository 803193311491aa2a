-- What a call leaves of all passes of its party.
use Rattle.std.proofs.Common.{◌≡◌, ℕ, ◌<◌, length, set, slice_index_or, List, Option, Some, None, refl, sym, subst}
use Rattle.ledger_core.specs.declared.entry.Call.{Call}
use Rattle.ledger_shared.specs.Value.{PassState, SharedState}
use Rattle.party_threads.specs.Later.{arc_pass, Advanced, HaveAdvanced}
use Rattle.party_threads.specs.Tracks.{Watcher, IsWatching, CanWatcherCall, HasMade, MadeIf, HasSubmitted}
use Rattle.party_threads.proofs.Passes.{none_went, any_default, one_went, watching_on, seen_again}

module _ (ledgers : List SharedState) (w : Watcher) (ps : List (Option PassState)) (a : ℕ) (c : Call) (known : ℕ) (i : IsWatching ledgers w ps)
    (can : CanWatcherCall w a c known) where
  place_below : a < length ps
  place_below = subst (λ z. a < z) (sym i.tracks.places) can.arc

  pub passes_on : (r q : Option PassState) → Advanced (slice_index_or ps a r) q → HaveAdvanced ps (set ps a q)
  passes_on r q gone = one_went ps ps a q place_below (none_went ps) (subst (λ o. Advanced o q) (any_default ps a r None place_below) gone)

  module _ (x : Watcher) where
    submitted_pass : (p q : PassState) → arc_pass ps a ≡ Some p → HasMade w a c p x q → HasSubmitted ledgers w a c ps x (set ps a (Some q))
    submitted_pass p q here made = record {
      learnt = made.learnt;
      watching =
          subst (λ z. IsWatching ledgers z (set ps a (Some q))) (sym made.learnt.knows)
          (watching_on ledgers w ps a p q _ i place_below here made.pass made.seen);
      seen = λ all. seen_again ps a q place_below all made.whole;
    }

    submitted_place : (o q : Option PassState) → arc_pass ps a ≡ o → MadeIf w a c o x q → HasSubmitted ledgers w a c ps x (set ps a q)
    submitted_place None q here l = absurd l
    submitted_place (Some p) q here l = subst (λ z. HasSubmitted ledgers w a c ps x (set ps a z)) (sym l.1) (submitted_pass p l.0 here l.2)

    pub has_submitted : (r q : Option PassState) → MadeIf w a c (slice_index_or ps a r) x q → HasSubmitted ledgers w a c ps x (set ps a q)
    has_submitted r q made = submitted_place (arc_pass ps a) q refl (subst (λ o. MadeIf w a c o x q) (any_default ps a r None place_below) made)
