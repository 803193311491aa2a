use Rattle.std.proofs.Common.{◌∙◌, ◌<◌, ◌≤◌, ap, arith, length, map, List, ℕ}
use Rattle.std.proofs.lemmas.List.{get_or_default, take_all}
use Rattle.serde_json.proofs.Views.{view-Array}
use Rattle.serde_json.specs.Data.{array, Data}
use Rattle.serde_json.specs.View.{items_of}
use Rattle.offer_text.specs.Words.{digest_data}
use Rattle.offer_text.proofs.Values.{item_more}
use Rattle.offer_text.proofs.terms.locks_value.Goals as goal

pub locks-preserved : goal.locks-preserved
locks-preserved c =
    let xs : List (List ℕ) = c.args.locks.now in
    let lt : c.locks.lock < length xs = omega (arith, c.len-lock-end.ensures.count, c.locks-test.true) in
    item_more digest_data c.locks.list.items c.push.new.self.items xs c.locks.lock c.get.result c.in_ok-digest_value.field-0 lt
    (c.get.ensures ∙ get_or_default xs c.locks.lock _ c.get.result lt) c.locks.invariant c.in_ok-push.ensures.items c.in_ok-digest_value.ensures

pub returns : goal.returns
returns c =
    let xs : List (List ℕ) = c.args.locks.now in
    let le : length xs ≤ c.locks.lock = omega (arith, c.len-lock-end.ensures.count, c.locks-test.false) in
    view-Array c.locks.list ∙ ap (λ (ds : List Data). array (items_of ds)) (c.locks.invariant ∙ ap (map digest_data) (take_all c.locks.lock xs le))
