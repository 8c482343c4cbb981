use Rattle.std.proofs.Common.{◌∙◌, ap, replicate, ℕ}
use Rattle.kk_table.proofs.Seats.{starts}
use Rattle.kk_table.proofs.words.Words.new.Goals as goal

pub of_words-requires : goal.of_words-requires
of_words-requires c =
    starts (Unit {0}) c.args.shape _ c.requires.fits
    (c.as_slice.ensures.value ∙ c.in_ok-zeros.ensures.items_if_clones_equal (λ x e. e) ∙ ap (λ (n : ℕ). replicate n 0) c.first_word.ensures)
