-- A move that is answered fits its deal.
use Rattle.std.proofs.Common.{◌≡◌, ℕ, ◌<◌, ◌≤◌, ◌&&◌, ◌||◌, ◌==◌, Bool, true, length, List, [], Ok, Option, Some, None, refl, sym, ap, ◌∙◌}
use Rattle.std.proofs.Common.{cond, subst, arith, eq-eqb}
use Rattle.std.specs.Prelude.{unwrap_or, IsTrue, codes}
use Rattle.std.proofs.lemmas.Bool.{le-leb}
use Rattle.std.proofs.lemmas.Bool.Decides.{nat_tests}
use Rattle.swap_base.proofs.Lists.{and_both}
use Rattle.swap_digraph.specs.declared.deal.Deal.{Deal}
use Rattle.swap_digraph.specs.Deal.{IsWellSized, party, counterparty, path_limit}
use Rattle.hashkey_path.specs.declared.hashkey.Hashkey.{Hashkey}
use Rattle.escrow_core.specs.Terms.{stated_terms}
use Rattle.swap_job.specs.declared.moves.Move.{Move}
use Rattle.swap_job.specs.declared.moves.Move.TheVariants.{Publish, Craft, Replay, Raw, Claim, Refund, Transfer, Wait}
use Rattle.swap_job.specs.Crafted.{Seeds}
use Rattle.swap_job.specs.Fitting.{IsArc, IsFitting}
use Rattle.swap_job.specs.Resolved.{move_arc}
use Rattle.command_input.specs.declared.reason.Reason.TheVariants.{NotAdjacent}
use Rattle.offer_moves.specs.Lists.{collected_results}
use Rattle.offer_moves.specs.FieldLimits.{ranged_number, check_range, to_digest}
use Rattle.offer_moves.specs.Names.{party_of_name}
use Rattle.offer_moves.specs.declared.raw.RawTerms.{RawTerms}
use Rattle.offer_moves.specs.declared.raw.RawKey.{RawKey}
use Rattle.offer_moves.specs.declared.raw.RawCraft.{RawCraft}
use Rattle.offer_moves.specs.declared.raw.RawMove.{RawMove}
use Rattle.offer_moves.specs.declared.raw.RawMove.TheVariants as raw_moves
use Rattle.offer_moves.specs.Limits.{number_below_count, optional_most, kept, limited_locks, optional_locks, parse_sig}
use Rattle.offer_moves.specs.Moves.{deal_sizes, parse_arc, optional_arc, make_publish, parse_craft, parse_replay, checked_hashkey, parse_unlock, parse_claim}
use Rattle.offer_moves.specs.Moves.{parse_refund, parse_transfer}
use Rattle.offer_moves.specs.Moves.{parse_wait, parse_move}
use Rattle.offer_moves.specs.Placed.{adjacent, crafted_by_others, placed}
use Rattle.offer_moves.specs.Kept.{AreSeeded, IsMadeMove}
use Rattle.offer_moves.proofs.Chains.{went, each_length}
use Rattle.offer_moves.proofs.Ranges.{passed, within_ok, number_within_ok}
use Rattle.offer_moves.proofs.ReadNumbers.{number_below_ok, each_below}

pub arc_fits : (d : Deal) (line : ℕ) (field : List ℕ) (n a : ℕ) → parse_arc (deal_sizes d) line field n ≡ Ok a → a < length d.graph.arcs
unfolding parse_arc
arc_fits d line field n a e = number_below_ok line field (length d.graph.arcs) n a e

optional_fits : (line : ℕ) (field : List ℕ) (high : ℕ) (o given : Option ℕ) (own : ℕ) → optional_most line field high o ≡ Ok given → own ≤ high
    → unwrap_or given own ≤ high
optional_fits line field high None given own e l = let s : given ≡ None = cc e in rw s l
optional_fits line field high (Some n) given own e l =
    let p = went (ranged_number line field 0 high n) _ given e in
    let s : given ≡ Some p.0 = cc (p.2) in
    rw s (number_within_ok line field 0 high n p.0 p.1).1

kept_all : (digests : List (List ℕ)) → length digests ≤ 8 → kept digests ≡ digests
kept_all digests few = ap (λ (b : Bool). cond b digests []) (le-leb (length digests) 8 few)

locks_length : (line count : ℕ) (texts locks : List (List ℕ)) → count ≤ 8 → limited_locks line count texts ≡ Ok locks → length locks ≡ count
unfolding limited_locks
locks_length line count texts locks few e =
    let p = went (check_range line (codes "locks") count count (length texts)) _ locks e in
    let w = within_ok line (codes "locks") count count (length texts) p.0 p.1 in
    let q = went (collected_results (to_digest line (codes "locks")) texts) _ locks p.2 in
    let l = each_length (to_digest line (codes "locks")) texts q.0 q.1 in
    let s : kept q.0 ≡ locks = cc (q.2) in
    let same : locks ≡ q.0 = sym s ∙ kept_all q.0 (omega arith) in
    ap (λ (ds : List (List ℕ)). length ds) same ∙ omega arith

optional_length : (line count : ℕ) (o given : Option (List (List ℕ))) (own : List (List ℕ)) → count ≤ 8 → optional_locks line count o ≡ Ok given
    → length own ≡ count
    → length (unwrap_or given own) ≡ count
optional_length line count None given own few e l = let s : given ≡ None = cc e in rw s l
optional_length line count (Some texts) given own few e l =
    let p = went (limited_locks line count texts) _ given e in
    let s : given ≡ Some p.0 = cc (p.2) in
    rw s (locks_length line count texts p.0 few p.1)

and_six : (a b c d e f : Bool) → a ≡ true → b ≡ true → c ≡ true → d ≡ true → e ≡ true → f ≡ true → (a && b && c && d && e && f) ≡ true
and_six a b c d e f p q r s t u = rw (p, q, r, s, t, u) refl

and_four : (a b c d : Bool) → a ≡ true → b ≡ true → c ≡ true → d ≡ true → (a && b && c && d) ≡ true
and_four a b c d p q r s = rw (p, q, r, s) refl

publish_made : (d : Deal) (seeds : Seeds) (line n : ℕ) (t : RawTerms) (mv : Move) → IsWellSized d → make_publish (deal_sizes d) line n t ≡ Ok mv
    → IsMadeMove d seeds line mv
unfolding make_publish
publish_made d seeds line n t mv w e =
    let p = went (parse_arc (deal_sizes d) line (codes "arc") n) _ mv e in
    let q = went (optional_most line (codes "start") 1000000 t.start) _ mv p.2 in
    let r = went (optional_most line (codes "delta") 1000000 t.delta) _ mv q.2 in
    let b = went (optional_most line (codes "bound") 1000000 t.bound) _ mv r.2 in
    let k = went (optional_most line (codes "timelock") 1000000 t.timelock) _ mv b.2 in
    let m = went (optional_most line (codes "amount") 1000000000000 t.amount) _ mv k.2 in
    let l = went (optional_locks line (length d.leaders) t.locks) _ mv m.2 in
    let s : Publish p.0 q.0 r.0 b.0 k.0 m.0 l.0 ≡ mv = cc (l.2) in
    let a : p.0 < length d.graph.arcs = arc_fits d line (codes "arc") n p.0 p.1 in
    let own = stated_terms d p.0 in
    subst (λ x. IsMadeMove d seeds line x) s (record {
      arc = a;
      below = tt;
      names = λ u h k'. and_six _ _ _ _ _ _
          (eq-eqb _ _ (optional_length line (length d.leaders) t.locks l.0 own.locks w.leaders.1 l.1 w.hashlocks))
          (le-leb _ _ (optional_fits line (codes "start") 1000000 t.start q.0 own.start q.1 (omega (arith, w.start))))
          (le-leb _ _ (optional_fits line (codes "delta") 1000000 t.delta r.0 own.delta r.1 (omega (arith, w.delta))))
          (le-leb _ _ (optional_fits line (codes "bound") 1000000 t.bound b.0 own.bound b.1 (omega (arith, w.bound))))
          (le-leb _ _ (optional_fits line (codes "timelock") 1000000 t.timelock k.0 own.timelock k.1 (w.timelock p.0 a)))
          (le-leb _ _ (optional_fits line (codes "amount") 1000000000000 t.amount m.0 own.amount m.1 (w.amount p.0 a)));
    })

-- what a hashkey keeps to
record IsKey (d : Deal) (path : List ℕ) (k : RawKey) (key : Hashkey) : Type 0 where
  lock : key.lock < length d.leaders
  same : key.path ≡ path
  path_few : length k.path ≤ path_limit d
  sigs_few : length key.sigs ≤ path_limit d

key_fits : (d : Deal) (line : ℕ) (path : List ℕ) (k : RawKey) (key : Hashkey) → checked_hashkey (deal_sizes d) line path k ≡ Ok key → IsKey d path k key
unfolding checked_hashkey
key_fits d line path k key e =
    let p = went (number_below_count line (codes "lock") (length d.leaders) k.lock) _ key e in
    let q = went (to_digest line (codes "secret") k.secret) _ key p.2 in
    let r = went (check_range line (codes "path") 0 (path_limit d) (length k.path)) _ key q.2 in
    let b = went (check_range line (codes "sigs") 0 (path_limit d) (length k.sigs)) _ key r.2 in
    let l = went (collected_results (parse_sig line) k.sigs) _ key b.2 in
    let made : Hashkey = record { lock = p.0; secret = q.0; path = path; sigs = l.0 } in
    let s : made ≡ key = cc (l.2) in
    let n = each_length (parse_sig line) k.sigs l.0 l.1 in
    let few = within_ok line (codes "sigs") 0 (path_limit d) (length k.sigs) b.0 b.1 in
    subst (λ x. IsKey d path k x) s (record {
      lock = number_below_ok line (codes "lock") (length d.leaders) k.lock p.0 p.1;
      same = refl;
      path_few = (within_ok line (codes "path") 0 (path_limit d) (length k.path) r.0 r.1).1;
      sigs_few = omega (arith, n, few.1);
    })

unlock_made : (d : Deal) (seeds : Seeds) (names : List (List ℕ)) (line n : ℕ) (k : RawKey) (mv : Move) → length names ≡ d.graph.n
    → parse_unlock (deal_sizes d) names line n k ≡ Ok mv
    → IsMadeMove d seeds line mv
unfolding parse_unlock
unlock_made d seeds names line n k mv same e =
    let p = went (collected_results (party_of_name line names) k.path) _ mv e in
    let q = went (parse_arc (deal_sizes d) line (codes "arc") n) _ mv p.2 in
    let r = went (checked_hashkey (deal_sizes d) line p.0 k) _ mv q.2 in
    let s : Raw q.0 r.0 ≡ mv = cc (r.2) in
    let key = key_fits d line p.0 k r.0 r.1 in
    let len = each_length (party_of_name line names) k.path p.0 p.1 in
    let all = each_below line d.graph.n names k.path p.0 same p.1 in
    subst (λ x. IsMadeMove d seeds line x) s (record {
      arc = arc_fits d line (codes "arc") n q.0 q.1;
      below = tt;
      names = λ u h k'. and_four _ _ _ _
          (let l : r.0.lock < length d.leaders = key.lock in grind (arith, nat_tests))
          (le-leb (length r.0.path) (path_limit d) (rw key.same (omega (arith, len, key.path_few))))
          (le-leb (length r.0.sigs) (path_limit d) key.sigs_few)
          (rw key.same all);
    })

optional_arc_fits : (d : Deal) (line : ℕ) (field : List ℕ) (o given : Option ℕ) → optional_arc (deal_sizes d) line field o ≡ Ok given → IsArc d given
optional_arc_fits d line field None given e = let s : given ≡ None = cc e in subst (IsArc d) (sym s) tt
optional_arc_fits d line field (Some n) given e =
    let p = went (parse_arc (deal_sizes d) line field n) _ given e in
    let s : given ≡ Some p.0 = cc (p.2) in
    subst (IsArc d) (sym s) (arc_fits d line field n p.0 p.1)

craft_made : (d : Deal) (seeds : Seeds) (names : List (List ℕ)) (line n : ℕ) (k : RawCraft) (mv : Move) → length names ≡ d.graph.n
    → parse_craft (deal_sizes d) names line n k ≡ Ok mv → IsMadeMove d seeds line mv
unfolding parse_craft
craft_made d seeds names line n k mv same e =
    let p = went (collected_results (party_of_name line names) k.via) _ mv e in
    let q = went (parse_arc (deal_sizes d) line (codes "arc") n) _ mv p.2 in
    let l = went (number_below_count line (codes "lock") (length d.leaders) k.lock) _ mv q.2 in
    let w = went (check_range line (codes "via") 1 (path_limit d) (length k.via)) _ mv l.2 in
    let o = went (optional_arc (deal_sizes d) line (codes "onto") k.onto) _ mv w.2 in
    let s : Craft q.0 l.0 p.0 o.0 ≡ mv = cc (o.2) in
    let len = each_length (party_of_name line names) k.via p.0 p.1 in
    let many = within_ok line (codes "via") 1 (path_limit d) (length k.via) w.0 w.1 in
    let all = each_below line d.graph.n names k.via p.0 same p.1 in
    subst (λ x. IsMadeMove d seeds line x) s (record {
      arc = arc_fits d line (codes "arc") n q.0 q.1;
      below = all;
      names = λ u h r. (
        number_below_ok line (codes "lock") (length d.leaders) k.lock l.0 l.1,
        record { some = omega (arith, len, many.0); few = omega (arith, len, many.1); known = all; seeded = r },
        optional_arc_fits d line (codes "onto") k.onto o.0 o.1,
      );
    })

replay_made : (d : Deal) (seeds : Seeds) (line n m k : ℕ) (mv : Move) → parse_replay (deal_sizes d) line n m k ≡ Ok mv → IsMadeMove d seeds line mv
unfolding parse_replay
replay_made d seeds line n m k mv e =
    let p = went (parse_arc (deal_sizes d) line (codes "arc") n) _ mv e in
    let q = went (number_below_count line (codes "lock") (length d.leaders) m) _ mv p.2 in
    let r = went (parse_arc (deal_sizes d) line (codes "onto") k) _ mv q.2 in
    let s : Replay p.0 q.0 r.0 ≡ mv = cc (r.2) in
    subst (λ x. IsMadeMove d seeds line x) s (record {
      arc = arc_fits d line (codes "arc") n p.0 p.1;
      below = tt;
      names = λ u h y. (number_below_ok line (codes "lock") (length d.leaders) m q.0 q.1, arc_fits d line (codes "onto") k r.0 r.1);
    })

claim_made : (d : Deal) (seeds : Seeds) (line n : ℕ) (mv : Move) → parse_claim (deal_sizes d) line n ≡ Ok mv → IsMadeMove d seeds line mv
unfolding parse_claim
claim_made d seeds line n mv e =
    let p = went (parse_arc (deal_sizes d) line (codes "arc") n) _ mv e in
    let s : Claim p.0 ≡ mv = cc (p.2) in
    subst (λ x. IsMadeMove d seeds line x) s (record { arc = arc_fits d line (codes "arc") n p.0 p.1; below = tt; names = λ u h k. refl })

refund_made : (d : Deal) (seeds : Seeds) (line n : ℕ) (mv : Move) → parse_refund (deal_sizes d) line n ≡ Ok mv → IsMadeMove d seeds line mv
unfolding parse_refund
refund_made d seeds line n mv e =
    let p = went (parse_arc (deal_sizes d) line (codes "arc") n) _ mv e in
    let s : Refund p.0 ≡ mv = cc (p.2) in
    subst (λ x. IsMadeMove d seeds line x) s (record { arc = arc_fits d line (codes "arc") n p.0 p.1; below = tt; names = λ u h k. refl })

pub adjacent_fits : (d : Deal) (line p a : ℕ) (u : Unit {0}) → adjacent d.graph.arcs line p a ≡ Ok u → ((p == party d a) || (p == counterparty d a)) ≡ true
unfolding adjacent
adjacent_fits d line p a u e = (passed ((p == party d a) || (p == counterparty d a)) tt u (NotAdjacent line) e).0

transfer_made : (d : Deal) (seeds : Seeds) (names : List (List ℕ)) (line n : ℕ) (name : List ℕ) (amount : ℕ) (mv : Move)
    → parse_transfer (deal_sizes d) names line n name amount ≡ Ok mv
    → IsMadeMove d seeds line mv
unfolding parse_transfer
transfer_made d seeds names line n name amount mv e =
    let p = went (party_of_name line names name) _ mv e in
    let q = went (parse_arc (deal_sizes d) line (codes "arc") n) _ mv p.2 in
    let r = went (ranged_number line (codes "units") 0 1000000000000 amount) _ mv q.2 in
    let s : Transfer q.0 p.0 r.0 ≡ mv = cc (r.2) in
    subst (λ x. IsMadeMove d seeds line x) s (record {
      arc = arc_fits d line (codes "arc") n q.0 q.1;
      below = tt;
      names = λ u h k'. and_both _ _ (adjacent_fits d line p.0 q.0 u h) (le-leb _ _ (number_within_ok line (codes "units") 0 1000000000000 amount r.0 r.1).1);
    })

wait_made : (d : Deal) (seeds : Seeds) (line n height : ℕ) (mv : Move) → parse_wait (deal_sizes d) line n height ≡ Ok mv → IsMadeMove d seeds line mv
unfolding parse_wait
wait_made d seeds line n height mv e =
    let p = went (parse_arc (deal_sizes d) line (codes "arc") n) _ mv e in
    let q = went (ranged_number line (codes "height") 0 1000000 height) _ mv p.2 in
    let s : Wait p.0 q.0 ≡ mv = cc (q.2) in
    subst (λ x. IsMadeMove d seeds line x) s (record { arc = arc_fits d line (codes "arc") n p.0 p.1; below = tt; names = λ u h k. refl })

pub move_made : (d : Deal) (seeds : Seeds) (names : List (List ℕ)) (line : ℕ) (raw : RawMove) (mv : Move) → IsWellSized d → length names ≡ d.graph.n
    → parse_move (deal_sizes d) names line raw ≡ Ok mv → IsMadeMove d seeds line mv
move_made d seeds names line (raw_moves.Publish n t) mv w same e = publish_made d seeds line n t mv w e
move_made d seeds names line (raw_moves.Craft n k) mv w same e = craft_made d seeds names line n k mv same e
move_made d seeds names line (raw_moves.Replay n lock onto) mv w same e = replay_made d seeds line n lock onto mv e
move_made d seeds names line (raw_moves.Raw n k) mv w same e = unlock_made d seeds names line n k mv same e
move_made d seeds names line (raw_moves.Claim n) mv w same e = claim_made d seeds line n mv e
move_made d seeds names line (raw_moves.Refund n) mv w same e = refund_made d seeds line n mv e
move_made d seeds names line (raw_moves.Transfer n to units) mv w same e = transfer_made d seeds names line n to units mv e
move_made d seeds names line (raw_moves.Wait n height) mv w same e = wait_made d seeds line n height mv e

-- what is placed stands on an arc of its party, and who gets units is one of its two
pub placed_fits : (d : Deal) (conforming : List Bool) (seeds : Seeds) (line p : ℕ) (mv : Move) (u : Unit {0}) → IsMadeMove d seeds line mv → AreSeeded seeds mv
    → placed d.graph.arcs conforming line p mv ≡ Ok u
    → IsFitting d seeds mv × IsTrue ((p == party d (move_arc mv)) || (p == counterparty d (move_arc mv)))
unfolding placed
placed_fits d conforming seeds line p mv u made seeded e =
    let q = went (adjacent d.graph.arcs line p (move_arc mv)) _ u e in
    let r = went (crafted_by_others conforming line mv) _ u q.2 in
    (record { arc = made.arc; names = made.names u r.2 seeded }, adjacent_fits d line p (move_arc mv) q.0 q.1)
