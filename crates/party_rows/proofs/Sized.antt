-- A proposed deal with what rows give is an accepted one.
use Rattle.std.proofs.Common.{◌≡◌, ℕ, zero, suc, ◌+◌, ◌<◌, List, [], ◌∷◌, length, map, Option, Some, None, slice_index_or, refl, sym, ap, ◌∙◌, subst, arith}
use Rattle.std.specs.Prelude.{is_none}
use Rattle.std.proofs.lemmas.Iterator.Adapters.{position_from-zero}
use Rattle.std.specs.List.{position_from}
use Rattle.std.proofs.lemmas.List.{length-map}
use Rattle.std.proofs.lemmas.List.FromFn.{length-map-range_with_len, get_or-map-range_with_len}
use Rattle.swap_digraph.specs.Deal.{HasKeys, IsWellSized}
use Rattle.swap_digraph.specs.declared.deal.Deal.{Deal}
use Rattle.swap_digraph.specs.declared.deal.Mode.{Mode}
use Rattle.swap_digraph.specs.declared.deal.Mode.TheVariants.{Timelocks, Hashkeys}
use Rattle.swap_digraph.specs.declared.deal.Version.{Version}
use Rattle.swap_digraph.specs.declared.deal.Version.TheVariants.{One, Two}
use Rattle.hashkey_path.specs.Digest.{deal_id}
use Rattle.hashkey_path.proofs.Feeding.{any_id}
use Rattle.swap_rules.specs.Accepted.{IsAccepted, IsOfVersion, IsTimed}
use Rattle.swap_offer.specs.Proposed.{IsProposed}
use Rattle.swap_gen.specs.Made.{all_timelocks, made_deal}
use Rattle.swap_gen.proofs.Accepting.{filled_is_sized, made_is_accepted}
use Rattle.party_rows.specs.declared.row.Row.{Row}
use Rattle.party_rows.specs.Dealt.{all_told_keys, dealt_deal, filled_deal, told_hashlock, told_keys, row_keys}
use Rattle.party_rows.specs.Rows.{AreDealRows, keys_wanted, first_missing, find_row}

row_there : (i : ℕ) (rows : List (Option Row)) → position_from is_none i rows ≡ None → (p : ℕ) → p < length rows
    → (row : Row) × (find_row rows p ≡ Some row)
row_there i [] e p lt = absurd (omega arith)
row_there i (None ∷ rows) e p lt = absurd (cc e)
row_there i (Some row ∷ rows) e zero lt = (row, refl)
row_there i (Some row ∷ rows) e (suc p) lt = row_there (i + 1) rows e p (omega arith)

-- where none is missing each row is there
pub all_there : (rows : List (Option Row)) → first_missing rows ≡ None → (p : ℕ) → p < length rows → (row : Row) × (find_row rows p ≡ Some row)
all_there rows none p lt = row_there 0 rows (sym (position_from-zero is_none rows) ∙ none) p lt

row_has_keys : (d : Deal) (rows : List (Option Row)) → AreDealRows d rows → first_missing rows ≡ None → (p : ℕ) → p < d.graph.n
    → length (told_keys rows p) ≡ keys_wanted d.mode d
row_has_keys d rows k none p lt =
    let r = all_there rows none p (rw k.one_each lt) in
    ap (λ (o : Option Row). length (row_keys o)) r.1 ∙ k.keys p r.0 lt r.1

keys_sized : (m : Mode) (d e : Deal) (rows : List (Option Row)) → d.mode ≡ m → AreDealRows d rows → first_missing rows ≡ None → e.graph ≡ d.graph
    → e.leaders ≡ d.leaders → e.keys ≡ all_told_keys m rows d.graph.n → HasKeys m e
keys_sized Timelocks d e rows em k none g l s = s
keys_sized Hashkeys d e rows em k none g l s = (
  ap length s ∙ length-map-range_with_len (told_keys rows) 0 d.graph.n ∙ ap (λ h. h.n) (sym g),
  λ p lt.
      let below : p < d.graph.n = rw (← g) lt in
      ap (λ (ks : List (List (List ℕ))). length (slice_index_or ks p [])) s
      ∙ ap length (get_or-map-range_with_len (told_keys rows) 0 d.graph.n p p [] below (omega arith))
      ∙ row_has_keys d rows k none p below ∙ ap (λ m. keys_wanted m d) em ∙ ap length (sym l),
)

-- Hashlocks, keys and the id change nothing else.

timelocks_right : (m : Mode) (d : Deal) (hs : List (List ℕ)) (ks : List (List (List ℕ))) (id : List ℕ) → IsTimed m d
    → IsTimed m (record d { hashlocks = hs; keys = ks; id = id })
timelocks_right Timelocks d hs ks id t =
    (t.0, λ a lt. let k = t.1 a lt in record { dist = k.dist; is_dist = k.is_dist; timelock = k.timelock })
timelocks_right Hashkeys d hs ks id t = t

version_kept : (v : Version) (d : Deal) (hs : List (List ℕ)) (ks : List (List (List ℕ))) (id : List ℕ) → IsOfVersion v d
    → IsOfVersion v (record d { hashlocks = hs; keys = ks; id = id })
version_kept One d hs ks id k = k
version_kept Two d hs ks id k = k

same_timelocks : (m : Mode) (d : Deal) (hs : List (List ℕ)) (ks : List (List (List ℕ)))
    → all_timelocks m (record d { hashlocks = hs; keys = ks }) ≡ all_timelocks m d
same_timelocks Timelocks d hs ks = refl
same_timelocks Hashkeys d hs ks = refl

module _ (rows : List (Option Row)) (d : Deal) (k : IsProposed d) (are : AreDealRows d rows) (none : first_missing rows ≡ None) where
  filled_sized : IsWellSized (filled_deal rows d)
  filled_sized =
      let s = filled_is_sized [] d k in
      record {
        ends = s.ends;
        parties = s.parties;
        arcs = s.arcs;
        leaders = s.leaders;
        leader = s.leader;
        start = s.start;
        delta = s.delta;
        bound = s.bound;
        amounts = s.amounts;
        amount = s.amount;
        hashlocks = length-map d.leaders (told_hashlock rows);
        keys = keys_sized d.mode d (filled_deal rows d) rows refl are none refl refl refl;
        timelocks = s.timelocks;
        timelock = s.timelock;
      }

  -- filled in one after another
  pub rows_sized : (hs : List (List ℕ)) (ks : List (List (List ℕ))) (ts : List ℕ) → hs ≡ map (told_hashlock rows) d.leaders
      → ks ≡ all_told_keys d.mode rows d.graph.n → ts ≡ all_timelocks d.mode (record d { hashlocks = hs; keys = ks })
      → IsWellSized (record d { hashlocks = hs; keys = ks; timelocks = ts })
  rows_sized hs ks ts eh ek et =
      subst (λ (x : List (List ℕ)). IsWellSized (record d { hashlocks = x; keys = ks; timelocks = ts })) (sym eh)
      (subst (λ (x : List (List (List ℕ))). IsWellSized (record d { hashlocks = map (told_hashlock rows) d.leaders; keys = x; timelocks = ts })) (sym ek)
      (subst (λ (x : List ℕ). IsWellSized (record d { hashlocks = map (told_hashlock rows) d.leaders; keys = all_told_keys d.mode rows d.graph.n; timelocks = x }))
      (sym (et ∙ same_timelocks d.mode d hs ks)) filled_sized))

  dealt_is_accepted : IsAccepted (dealt_deal rows d)
  unfolding made_deal dealt_deal
  dealt_is_accepted =
      let m = made_is_accepted [] d k in
      let e : Deal = dealt_deal rows d in
      record {
        parties = m.parties;
        arcs = m.arcs;
        ends = m.ends;
        of_version = version_kept d.version (made_deal [] d) e.hashlocks e.keys e.id m.of_version;
        strong = m.strong;
        leaders = m.leaders;
        leader = m.leader;
        apart = m.apart;
        feedback = m.feedback;
        height = m.height;
        is_height = m.is_height;
        delta = m.delta;
        start = m.start;
        bound = m.bound;
        one_amount_each = m.one_amount_each;
        amounts = m.amounts;
        hashlocks = length-map d.leaders (told_hashlock rows);
        keys = keys_sized d.mode d e rows refl are none refl refl refl;
        one_timelock_each = m.one_timelock_each;
        timed = timelocks_right d.mode (made_deal [] d) e.hashlocks e.keys e.id m.timed;
        id = sym (any_id (filled_deal rows d) e.id);
      }

  rows_accepted : (e : Deal) → e ≡ dealt_deal rows d → IsAccepted e
  rows_accepted e is = subst IsAccepted (sym is) dealt_is_accepted

  pub deal_accepted : (hs : List (List ℕ)) (ks : List (List (List ℕ))) (ts id : List ℕ) → hs ≡ map (told_hashlock rows) d.leaders
      → ks ≡ all_told_keys d.mode rows d.graph.n → ts ≡ all_timelocks d.mode (record d { hashlocks = hs; keys = ks })
      → id ≡ deal_id (record d { hashlocks = hs; keys = ks; timelocks = ts }) → IsAccepted (record d { hashlocks = hs; keys = ks; timelocks = ts; id = id })
  unfolding dealt_deal
  deal_accepted hs ks ts id eh ek et ei =
      let filled : record d { hashlocks = hs; keys = ks; timelocks = ts } ≡ filled_deal rows d =
      ap (λ (x : List (List ℕ)). record d { hashlocks = x; keys = ks; timelocks = ts }) eh
      ∙ ap (λ (x : List (List (List ℕ))). record d { hashlocks = map (told_hashlock rows) d.leaders; keys = x; timelocks = ts }) ek
      ∙ ap (λ (x : List ℕ). record d { hashlocks = map (told_hashlock rows) d.leaders; keys = all_told_keys d.mode rows d.graph.n; timelocks = x })
      (et ∙ same_timelocks d.mode d hs ks) in
      rows_accepted (record d { hashlocks = hs; keys = ks; timelocks = ts; id = id })
      (ap (λ (x : List ℕ). record d { hashlocks = hs; keys = ks; timelocks = ts; id = x }) ei ∙ ap (λ (y : Deal). record y { id = deal_id y }) filled)

  -- the deal with its id is well sized
  pub dealt_is_sized : IsWellSized (dealt_deal rows d)
  unfolding dealt_deal
  dealt_is_sized =
      let s = filled_sized in
      record {
        ends = s.ends;
        parties = s.parties;
        arcs = s.arcs;
        leaders = s.leaders;
        leader = s.leader;
        start = s.start;
        delta = s.delta;
        bound = s.bound;
        amounts = s.amounts;
        amount = s.amount;
        hashlocks = s.hashlocks;
        keys = keys_sized d.mode d (dealt_deal rows d) rows refl are none refl refl refl;
        timelocks = s.timelocks;
        timelock = s.timelock;
      }
