-- Where the moves of a header's scripts stand, party by party.
use Rattle.std.proofs.Common.{◌≡◌, ℕ, ◌+◌, ◌<◌, ◌≤◌, Bool, length, get_or, map, drop, List, [], ◌∷◌, None, Result, Ok, refl, sym, ap, ap₂, ◌∙◌, subst}
use Rattle.std.proofs.Common.{codes, arith, add-one, drop-cons}
use Rattle.std.specs.List.{All}
use Rattle.std.proofs.lemmas.List.{get_or-map, length-map, length-drop, nil_from_length}
use Rattle.std.proofs.lemmas.List.Elements.{All-nil, All-from_get_or}
use Rattle.swap_base.specs.Fault.{◌>>=◌, Fails}
use Rattle.swap_base.specs.declared.fault.Fault.{Fault}
use Rattle.swap_base.specs.declared.fault.Fault.TheVariants.{Refused, NoMemory}
use Rattle.swap_digraph.specs.declared.arc_ends.ArcEnds.{ArcEnds}
use Rattle.swap_digraph.specs.declared.deal.Version.{Version}
use Rattle.swap_digraph.specs.Deal.{most_parties, version_path_limit}
use Rattle.swap_job.specs.Roles.{is_conforming, role_script}
use Rattle.swap_job.specs.declared.job.Purpose.{Purpose}
use Rattle.swap_job.specs.declared.job.Role.{Role}
use Rattle.swap_job.specs.declared.job.Role.TheVariants as kinds
use Rattle.swap_job.specs.declared.moves.Move.{Move}
use Rattle.swap_job.specs.declared.moves.Move.TheVariants.{Claim}
use Rattle.command_input.specs.declared.reason.Reason.{Reason}
use Rattle.offer_moves.specs.FieldLimits.{check_range}
use Rattle.offer_moves.specs.Lists.{collected_results}
use Rattle.offer_moves.proofs.Chains.{went, each_all}
use Rattle.offer_moves.specs.Kept.{CanStand, IsMadeMove}
use Rattle.offer_moves.specs.Moves.{deal_sizes, parse_move}
use Rattle.offer_moves.specs.declared.raw.RawMove.{RawMove}
use Rattle.offer_moves.proofs.Made.{move_made}
use Rattle.offer_moves.specs.declared.moves.Sizes.{Sizes}
use Rattle.offer_moves.proofs.Stands.{move_stands}
use Rattle.offer_header.specs.Limits.{script_role, checked_role, checked_seed, parse_acting, count_parties, header_sizes, arc_ends, limited_value}
use Rattle.offer_header.specs.Names.{IsNumbered}
use Rattle.offer_header.specs.Scripts.{role_placed, roles_placed, AllStand, AreMade}
use Rattle.offer_header.specs.declared.raw.RawActor.{RawActor}
use Rattle.offer_header.specs.declared.raw.RawActor.TheVariants.{Conforming, Manual, Script, Strategy}
use Rattle.offer_header.specs.declared.raw.RawParty.{RawParty}
use Rattle.offer_header.specs.declared.raw.RawHeader.{RawHeader}
use Rattle.offer_header.specs.declared.limits.Acting.{Acting}
use Rattle.offer_header.specs.declared.names.Numbered.{Numbered}
use Rattle.offer_header.specs.declared.header.Header.{Header}
use Rattle.offer_header.proofs.Limited.{opened, parties_ok}

-- The loop over the parties.

split : (arcs : List ArcEnds) (conforming : List Bool) (line i : ℕ) (roles : List Role) (role : Role) → i < length roles → role ≡ get_or roles i role
    → roles_placed arcs conforming line i (drop i roles) ≡ role_placed arcs conforming line i role
    >>= λ u. roles_placed arcs conforming line (i + 1) (drop (i + 1) roles)
unfolding roles_placed
split arcs conforming line i roles role lt is =
    let e : drop i roles ≡ role ∷ drop (i + 1) roles = rw (add-one, drop-cons roles i role lt, ← is) refl in
    ap (roles_placed arcs conforming line i) e

pub placed_on : (arcs : List ArcEnds) (conforming : List Bool) (line i : ℕ) (roles : List Role) (role : Role) (u : Unit {0}) (total : Result (Unit {0}) Reason)
    → i < length roles → role ≡ get_or roles i role → role_placed arcs conforming line i role ≡ Ok u
    → roles_placed arcs conforming line i (drop i roles) ≡ total → roles_placed arcs conforming line (i + 1) (drop (i + 1) roles) ≡ total
placed_on arcs conforming line i roles role u total lt is h so_far =
    sym (split arcs conforming line i roles role lt is
    ∙ ap (λ (r : Result (Unit {0}) Reason). r >>= λ u. roles_placed arcs conforming line (i + 1) (drop (i + 1) roles)) h) ∙ so_far

pub placed_fails : (e : Fault Reason) (arcs : List ArcEnds) (conforming : List Bool) (line i : ℕ) (roles : List Role) (role : Role)
    (total : Result (Unit {0}) Reason) → i < length roles → role ≡ get_or roles i role → Fails e (role_placed arcs conforming line i role)
    → roles_placed arcs conforming line i (drop i roles) ≡ total → Fails e total
placed_fails NoMemory arcs conforming line i roles role total lt is h so_far = tt
placed_fails (Refused reason) arcs conforming line i roles role total lt is h so_far =
    sym so_far ∙ (split arcs conforming line i roles role lt is
    ∙ ap (λ (r : Result (Unit {0}) Reason). r >>= λ u. roles_placed arcs conforming line (i + 1) (drop (i + 1) roles)) h)

pub placed_done : (arcs : List ArcEnds) (conforming : List Bool) (line i : ℕ) (roles : List Role) (total : Result (Unit {0}) Reason) → length roles ≤ i
    → roles_placed arcs conforming line i (drop i roles) ≡ total → total ≡ Ok tt
unfolding roles_placed
placed_done arcs conforming line i roles total le so_far =
    let e : drop i roles ≡ [] = nil_from_length (drop i roles) (omega (arith, length-drop i roles)) in
    sym so_far ∙ ap (roles_placed arcs conforming line i) e

-- What was read stands.

abbrev zero_acting : Acting
zero_acting = record { role = kinds.Manual; seed = None }

-- What holds of every move that is read holds of all scripts.
module _ (P : Move → Type 0) (s : Sizes) (names : List (List ℕ)) (line : ℕ) (each : (raw : RawMove) (mv : Move) → parse_move s names line raw ≡ Ok mv
    → P mv) where
  role_keeps : (actor : RawActor) (role : Role) → checked_role s names line actor ≡ Ok role → All P (role_script role)
  unfolding script_role
  role_keeps Conforming role e = let is : kinds.Conforming ≡ role = cc e in subst (λ (r : Role). All P (role_script r)) is (All-nil P)
  role_keeps Manual role e = let is : kinds.Manual ≡ role = cc e in subst (λ (r : Role). All P (role_script r)) is (All-nil P)
  role_keeps (Strategy name) role e = let is : kinds.Strategy name ≡ role = cc e in subst (λ (r : Role). All P (role_script r)) is (All-nil P)
  role_keeps (Script raws) role e =
      let p = went (check_range line (codes "script") 0 1000 (length raws)) _ role e in
      let q = went (collected_results (parse_move s names line) raws) _ role p.2 in
      let is : kinds.Script q.0 ≡ role = cc (q.2) in
      subst (λ (r : Role). All P (role_script r)) is
      (All-from_get_or P q.0 (Claim 0) (λ i lt. each_all P (parse_move s names line) each raws q.0 q.1 i (Claim 0) lt))

  acting_keeps : (p : RawParty) (a : Acting) → parse_acting s names line p ≡ Ok a → All P (role_script a.role)
  unfolding parse_acting
  acting_keeps p a e =
      let one = went (checked_role s names line p.actor) _ a e in
      let two = went (checked_seed line p) _ a one.2 in
      let is : record { role = one.0; seed = two.0 } ≡ a = cc (two.2) in
      subst (λ (x : Acting). All P (role_script x.role)) is (role_keeps p.actor one.0 one.1)

  parties_keep : (version : Version) (parties : List RawParty) (acting : List Acting) → count_parties version s names line parties ≡ Ok acting
      → All (λ (r : Role). All P (role_script r)) (map (λ (a : Acting). a.role) acting)
  unfolding count_parties
  parties_keep version parties acting e =
      let one = went (check_range line (codes "parties") 2 (most_parties version) (length parties)) _ acting e in
      let n = length-map acting (λ (a : Acting). a.role) in
      All-from_get_or (λ (r : Role). All P (role_script r)) (map (λ (a : Acting). a.role) acting) kinds.Manual
      (λ i lt.
      subst (λ (r : Role). All P (role_script r))
      (sym (get_or-map (λ (a : Acting). a.role) acting i zero_acting kinds.Manual (omega (arith, lt, n))))
      (each_all (λ (a : Acting). All P (role_script a.role)) (parse_acting s names line) acting_keeps parties acting one.2 i zero_acting (omega
      (arith, lt, n))))

pub all_stand : (line : ℕ) (purpose : Purpose) (raw : RawHeader) (n : Numbered) (h : Header) → IsNumbered raw n → limited_value purpose line raw n ≡ Ok h
    → AllStand h
all_stand line purpose raw n h is e =
    let o = opened line purpose raw n h e in
    let r = parties_ok raw.version (header_sizes raw) n.names line raw.parties o.acting o.acting_are in
    let arcs : length (map arc_ends n.arcs) ≡ length raw.arcs = length-map n.arcs arc_ends ∙ is.arcs in
    let conforming : length (map (λ (a : Acting). is_conforming a.role) o.acting) ≡ length n.names
    = length-map o.acting (λ (a : Acting). is_conforming a.role) ∙ (r.2 ∙ sym is.parties) in
    let own : List Role = map (λ (a : Acting). a.role) o.acting in
    subst AllStand o.same
    (subst (λ (k : ℕ). All (λ (r : Role). All (CanStand k (length (map (λ (a : Acting). is_conforming a.role) o.acting))) (role_script r)) own) (sym arcs)
    (subst (λ (k : ℕ). All (λ (r : Role). All (CanStand (length raw.arcs) k) (role_script r)) own) (sym conforming)
    (parties_keep (CanStand (length raw.arcs) (length n.names)) (header_sizes raw) n.names line (move_stands
    (header_sizes raw) n.names line) raw.version raw.parties
    o.acting o.acting_are)))

pub all_made : (line : ℕ) (purpose : Purpose) (raw : RawHeader) (n : Numbered) (h : Header) → IsNumbered raw n → limited_value purpose line raw n ≡ Ok h
    → AreMade line h
all_made line purpose raw n h is e = λ d seeds w sizes many.
    let o = opened line purpose raw n h e in
    let names : n.names ≡ h.names = ap (λ (x : Header). x.names) o.same in
    let arcs : length h.arcs ≡ length raw.arcs
    = ap (λ (x : Header). length x.arcs) (sym o.same) ∙ (length-map n.arcs arc_ends ∙ is.arcs) in
    let version : h.version ≡ raw.version = ap (λ (x : Header). x.version) (sym o.same) in
    let leaders : length h.leaders ≡ length raw.leaders = ap (λ (x : Header). length x.leaders) (sym o.same) ∙ is.leaders in
    let same : deal_sizes d ≡ header_sizes raw
    = sizes ∙ (ap₂ (λ (a l : ℕ). sized a l h.version) arcs leaders ∙ ap (sized (length raw.arcs) (length raw.leaders)) version) in
    let own : map (λ (a : Acting). a.role) o.acting ≡ h.roles = ap (λ (x : Header). x.roles) o.same in
    subst (λ (rs : List Role). All (λ (r : Role). All (IsMadeMove d seeds line) (role_script r)) rs) own
    (parties_keep (IsMadeMove d seeds line) (header_sizes raw) n.names line
    (λ r mv g. move_made d seeds n.names line r mv w (ap (λ (ns : List (List ℕ)). length ns) names ∙ sym many)
    (subst (λ (s : Sizes). parse_move s n.names line r ≡ Ok mv) (sym same) g)) raw.version raw.parties o.acting o.acting_are)
  where
    sized : ℕ → ℕ → Version → Sizes
    sized a l v = record { arcs = a; locks = l; path = version_path_limit v }
