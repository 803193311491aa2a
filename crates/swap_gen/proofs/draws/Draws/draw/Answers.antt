use Rattle.std.proofs.Common.{◌≡◌, refl, ap, ◌∙◌}
use Rattle.rand_chacha.specs.ChaCha.{word_at, key_of}
use Rattle.swap_gen.specs.Word.{seed_key_bytes, word, DrawState}
use Rattle.swap_gen.proofs.draws.Draws.draw.Goals as goal

pub returns-clause-word : goal.returns-clause-word
unfolding word
returns-clause-word c =
    let e : c.next_word.result ≡ word_at 10 c.self.inside.words.key c.self.inside.words.stream c.self.inside.words.word_pos =
    ap (λ p. p.0) c.next_word.ensures in
    e ∙ rw (c.self.invariant.0, c.self.invariant.1) refl ∙ ap (λ (s : DrawState). word_at 10 (key_of (seed_key_bytes s.seed)) 0 s.place) c.self.view_is
