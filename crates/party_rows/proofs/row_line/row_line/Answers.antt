use Rattle.std.proofs.Common.{◌++◌, ◌∙◌, List, ap, codes, map, ℕ}
use Rattle.hex.specs.Hex.{encode_lower}
use Rattle.transcript_book.specs.Words.{list_word}
use Rattle.party_rows.proofs.Fields.{row_text}
use Rattle.party_rows.proofs.row_line.row_line.Goals as goal

pub returns : goal.returns
returns c =
    c.new.ensures
    ∙ row_text c.args.name.now c.args.row.now _ _ _ _ _
    (c.in_ok-put.ensures ∙ ap (λ (l : List ℕ). l ++ (codes "row " ++ (c.args.name.now ++ codes " "))) c.new-out.ensures.items)
    c.in_ok-put_hashlock.ensures c.in_ok-put-2.ensures
    (c.in_ok-put_digests.ensures ∙ ap (λ (ks : List (List ℕ)). c.put-2.new.out.items ++ list_word (map encode_lower ks)) c.as_slice.ensures)
    c.in_ok-put-3.ensures
