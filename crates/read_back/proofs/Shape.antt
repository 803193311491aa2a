-- What is known of a group whose line is read, and the numbers that its names stand for.
use Rattle.std.proofs.Common.{◌≡◌, ◌==◌, ◌<◌, ℕ, zero, suc, Bool, true, false, List, [], ◌∷◌, length, map, get_or, Ok, refl, sym, ap, ◌∙◌}
use Rattle.std.proofs.Common.{subst, eqb-true}
use Rattle.std.specs.Prelude.{All}
use Rattle.std.specs.Str.{bytes_eq}
use Rattle.std.proofs.lemmas.Bool.{eqb-false}
use Rattle.std.proofs.lemmas.Iterator.Adapters.{position_from-zero}
use Rattle.swap_base.specs.Lists.{IsElement}
use Rattle.hashkey_path.proofs.Validity.{bytes_eq-true, bytes_eq_self}
use Rattle.swap_digraph.specs.declared.arc_ends.ArcEnds.{ArcEnds}
use Rattle.swap_digraph.specs.Graph.{resolve_all_ends, is_listed}
use Rattle.swap_digraph.proofs.Paths.{in-is_listed}
use Rattle.offer_moves.specs.Names.{found_place, party_of_name}
use Rattle.offer_header.specs.Names.{is_name}
use Rattle.swap_clear.specs.declared.answer.Group.{Group}
use Rattle.swap_clear.specs.declared.proposed.Proposed.{Proposed}
use Rattle.swap_clear.specs.Groups.{index_in_set}
use Rattle.swap_clear.specs.Proposals.{resolve_arc_ends}
use Rattle.swap_clear.specs.Led.{own, own_leaders, IsLed}
use Rattle.swap_clear.specs.Ready.{own_amounts, IsReady}
use Rattle.swap_clear.specs.Together.{IsGroup}
use Rattle.swap_clear.proofs.Places.{stands}
use Rattle.swap_clear.specs.Limits.{AreWishesInLimits}
use Rattle.swap_clear.specs.declared.limits.Wishes.{Wishes}
use Rattle.swap_clear.specs.ClearedText.{proposal}
use Rattle.read_back.specs.ClearedJobs.{wished_name, wished_graph}
use Rattle.read_back.proofs.Lists.{position_is, same_position}

abbrev pub IsGood : List ℕ → Type 0
IsGood name = is_name name ≡ true

-- A group that is cleared of wishes within their limits.
pub record IsClear (w : Wishes) (group : Group) : Type 0 where
  pub within : AreWishesInLimits w
  pub names : All IsGood w.names
  pub one : IsGroup (wished_graph w) group
  pub led : IsLed (wished_graph w) group
  pub ready : IsReady (own (wished_graph w) group) (own_leaders group) w.start w.delta group.bound (own_amounts w.arcs group)

pub not_true : (t : Bool) → (t ≡ true → ⊥) → t ≡ false
not_true true h = absurd (h refl)
not_true false h = refl

-- the ends of an arc of the digraph are those of the proposal; past the last stand no ends
pub ends_are : (arcs : List Proposed) (a : ℕ)
    → resolve_all_ends (map resolve_arc_ends arcs) a ≡ resolve_arc_ends (get_or arcs a (record { from = 0; to = 0; amount = 0 }))
ends_are [] a = refl
ends_are (p ∷ arcs) zero = refl
ends_are (p ∷ arcs) (suc a) = ends_are arcs a

module _ (w : Wishes) (group : Group) (k : IsClear w group) (line : ℕ) where
  -- ---- parties

  pub is_party : (p : ℕ) → IsElement p group.parties → p < length w.names
  is_party p i = k.one.parties p (in-is_listed p group.parties i)

  pub from_in : (a : ℕ) → IsElement a group.arcs → is_listed (proposal w.arcs a).from group.parties ≡ true
  from_in a i =
      let among = in-is_listed a group.arcs i in
      subst (λ (e : ArcEnds). is_listed e.from group.parties ≡ true) (ends_are w.arcs a) ((k.one.arcs a (k.one.arc a among)).0 among).0

  pub to_in : (a : ℕ) → IsElement a group.arcs → is_listed (proposal w.arcs a).to group.parties ≡ true
  to_in a i =
      let among = in-is_listed a group.arcs i in
      subst (λ (e : ArcEnds). is_listed e.to group.parties ≡ true) (ends_are w.arcs a) ((k.one.arcs a (k.one.arc a among)).0 among).1

  -- ---- names

  by_test : (p q : ℕ) → p < length w.names → q < length w.names → (b : Bool) → (q == p) ≡ b → bytes_eq (wished_name w p) (wished_name w q) ≡ b
  by_test p q lp lq true e =
      let same : q ≡ p = eqb-true q p e in
      subst (λ (r : ℕ). bytes_eq (wished_name w p) (wished_name w r) ≡ true) (sym same) (bytes_eq_self (wished_name w p))
  by_test p q lp lq false e =
      not_true (bytes_eq (wished_name w p) (wished_name w q))
      (λ t. eqb-false q p e (k.within.names.apart q p lq lp (sym (bytes_eq-true (wished_name w p) (wished_name w q) t))))

  -- two names are the same where their parties are
  pub same_name : (p q : ℕ) → p < length w.names → q < length w.names → bytes_eq (wished_name w p) (wished_name w q) ≡ (q == p)
  same_name p q lp lq = by_test p q lp lq (q == p) refl

  -- a name stands for the place of its party in the group
  pub number_back : (p : ℕ) → p < length w.names → is_listed p group.parties ≡ true
      → party_of_name line (map (wished_name w) group.parties) (wished_name w p) ≡ Ok (index_in_set group.parties p)
  unfolding party_of_name
  number_back p lt among =
      ap (found_place line (wished_name w p)) (position_from-zero (bytes_eq (wished_name w p)) (map (wished_name w) group.parties)
      ∙ same_position (bytes_eq (wished_name w p)) (wished_name w) (λ q. q == p) group.parties 0 (λ q i. same_name p q lt (is_party q i))
      ∙ sym (position_from-zero (λ q. q == p) group.parties)
      ∙ position_is (λ q. q == p) group.parties among)

  -- parties at one place are the same
  pub place_apart : (u v : ℕ) → is_listed u group.parties ≡ true → is_listed v group.parties ≡ true → index_in_set group.parties u ≡ index_in_set group.parties v → u ≡ v
  place_apart u v iu iv e =
      sym (stands group.parties u iu).is ∙ ap (λ (n : ℕ). get_or group.parties n 0) e ∙ (stands group.parties v iv).is
