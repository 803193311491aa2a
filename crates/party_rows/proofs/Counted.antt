-- Rows that were counted.
use Rattle.std.proofs.Common.{◌≡◌, ◌==◌, ◌&&◌, ℕ, ◌<◌, ◌≤◌, nat_le, Bool, true, false, cond, List, [], length, Option, Some, None, Result, Ok, Err, codes, slice_set, replicate}
use Rattle.std.proofs.Common.{refl, sym, ap, ◌∙◌, arith, eqb-true, ◌≢◌}
use Rattle.std.proofs.lemmas.Bool.{leb-true, eqb-false}
use Rattle.std.proofs.lemmas.List.{get_or-replicate, get_or-set_other, length-replicate, length-set}
use Rattle.std.proofs.lemmas.Grind.{get_or-set_at}
use Rattle.swap_digraph.specs.declared.deal.Deal.{Deal}
use Rattle.command_input.specs.declared.reason.Reason.{Reason}
use Rattle.command_input.specs.declared.reason.Reason.TheVariants.{OverLimit}
use Rattle.command_input.specs.Refusal.{named_result}
use Rattle.offer_moves.specs.FieldLimits.{check_range}
use Rattle.party_rows.specs.declared.row.Row.{Row}
use Rattle.party_rows.specs.Rows.{keys_wanted, right_keys, find_row, AreDealRows}

-- a row that is right has a key for each lock
pub keys_right : (line : ℕ) (d : Deal) (row : Row) (u : Unit {0}) → right_keys line d row ≡ Ok u → length row.keys ≡ keys_wanted d.mode d
unfolding right_keys check_range
keys_right line d row u e = go (nat_le wanted n) (nat_le n wanted) refl refl e
  where
    wanted : ℕ
    wanted = keys_wanted d.mode d

    n : ℕ
    n = length row.keys

    over : Result (Unit {0}) Reason
    over = Err (OverLimit line (codes "keys") n)

    go : (a b : Bool) → nat_le wanted n ≡ a → nat_le n wanted ≡ b → named_result [] (cond (a && b) (Ok tt) over) ≡ Ok u → n ≡ wanted
    go true true p q k = let x : wanted ≤ n = leb-true wanted n p in let y : n ≤ wanted = leb-true n wanted q in omega arith
    go true false p q k = absurd (cc k)
    go false b p q k = absurd (cc k)

pub row_added : (d : Deal) (rows : List (Option Row)) (p : ℕ) (row : Row) → AreDealRows d rows → p < d.graph.n
    → length row.keys ≡ keys_wanted d.mode d → AreDealRows d (slice_set rows p (Some row))
row_added d rows p row are lt count = record {
  one_each = length-set rows p (Some row) ∙ are.one_each;
  keys = λ q r below is. go q r below is (q == p) refl;
}
  where
    set_rows : List (Option Row)
    set_rows = slice_set rows p (Some row)

    go : (q : ℕ) (r : Row) → q < d.graph.n → find_row set_rows q ≡ Some r → (b : Bool) → (q == p) ≡ b → length r.keys ≡ keys_wanted d.mode d
    go q r below is true e =
        let there : p < length rows = omega (arith, are.one_each) in
        let here : find_row set_rows q ≡ Some row = get_or-set_at rows p q (Some row) None (eqb-true q p e) there in
        let same : row ≡ r = cc (here, is) in
        ap (λ (x : Row). length x.keys) (sym same) ∙ count
    go q r below is false e =
        let other : q ≢ p = eqb-false q p e in
        are.keys q r below (sym (get_or-set_other rows p q (Some row) None other) ∙ is)

-- where no row was told
pub empty_rows : (d : Deal) (rows : List (Option Row)) → rows ≡ replicate d.graph.n None → AreDealRows d rows
empty_rows d rows is = record {
  one_each = ap length is ∙ length-replicate d.graph.n None;
  keys = λ p row lt there.
      let none : find_row rows p ≡ None = ap (λ (l : List (Option Row)). find_row l p) is ∙ get_or-replicate d.graph.n p None None lt in
      absurd (cc (none, there));
}
