-- Laws of texts that no other proof cites, at a few numbers. Assumes nothing.
use mathlib.Core.Path.{sym, ap, ◌∙◌}
use lib.IntN.{negsuc}
use Rattle.place_text.specs.ReadBack.{number_after, read_number}
use Rattle.place_text.proofs.ReadBack.{decimal_back, hex8_back, hex16_back, word_text}
use Rattle.worked_examples.specs.Uses.{OfTexts}

pub of_texts : OfTexts
unfolding number_after
of_texts =
    record {
      decimal_back = λ n e. sym (decimal_back n) ∙ ap (read_number 10) e;
      hex8_back = λ n l e. sym (hex8_back n l) ∙ ap (read_number 16) e;
      hex16_back = λ high low h l e. sym (hex16_back high low h l) ∙ ap (read_number 16) e;
      word_text = λ n l. word_text (negsuc n) (record { sfits = l });
    }
