-- `capture::agreeing_in_word` meets its contract: the lowest bit in which the two words differ lies in the first byte that differs. Assumes nothing.
use Rattle.capture.proofs.Words.{agreeing_in_word}
use Rattle.capture.proofs.agreeing_in_word.Goals as goal

pub returns : goal.returns
returns c =
    agreeing_in_word c.args.new.now c.args.earlier.now c.from_le_bytes.result c.from_le_bytes-2.result c.told-new c.told-earlier c.fits-new c.fits-earlier c.from_le_bytes.ensures
    c.from_le_bytes-2.ensures
