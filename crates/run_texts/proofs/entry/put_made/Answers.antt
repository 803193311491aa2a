use Rattle.std.proofs.Common.{[], ◌++◌, ◌∷◌, List, ap, codes, decimal, ℕ}
use Rattle.command_input.specs.Words.{reply_text}
use Rattle.transcript_book.specs.Between.{spaced}
use Rattle.transcript_book.specs.Words.{call_words}
use Rattle.run_texts.proofs.Fields.{made_line, made_text, put_both}
use Rattle.run_texts.proofs.entry.put_made.Goals as goal

pub returns : goal.returns
returns c =
    let p = decimal c.args.sender in
    let call = spaced (call_words c.args.call.now) in
    let reply = reply_text c.args.reply in
    put_both c.put-3.result _ _ _ (codes "c " ++ (p ++ (codes " " ++ (call ++ (codes " = " ++ reply))))) (codes "\n") _
    (made_text p call reply _ _ _ _ _ c.in_ok-put.ensures c.in_ok-put_call.ensures c.in_ok-put-2.ensures c.in_ok-put_reply.ensures.ok)
    (ap (λ (l : List ℕ). l ++ 10 ∷ []) (made_line p c.args.call.now c.args.reply)) c.put-3.ensures
