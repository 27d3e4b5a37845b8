-- `accounts::charges::credit` meets its contract: under lock nothing is entered, else all to the one that ran, or its turns to each thread of the
-- rank. Assumes nothing.
use mathlib.Core.Path.{◌∙◌}
use Rattle.layout.proofs.Boards.{said_printer}
use Rattle.accounts.proofs.Credits.{rank_fits, rank_credited}
use Rattle.accounts.proofs.charges.credit.Goals as goal

pub credit_rank-requires : goal.credit_rank-requires
credit_rank-requires c =
    rank_fits _ _ _ c.args.far _ c.if-lock-ne0.false c.if-rounds-eq0.false _ (c.load_thread-th.ensures _ (said_printer _ c.told-t)) _ c.requires.fits

pub returns : goal.returns
returns c =
    c.credit_rank.ensures ∙ rank_credited _ _ _ c.args.far _ c.if-lock-ne0.false c.if-rounds-eq0.false _ (c.load_thread-th.ensures _ (said_printer _ c.told-t)) _
