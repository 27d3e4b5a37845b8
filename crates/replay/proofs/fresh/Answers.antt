-- `replay::fresh` meets its contract, by computation. Assumes nothing.
use mathlib.Core.Path.{refl}
use Rattle.rules.specs.Door.{fresh, fresh_table}
use Rattle.rules.specs.Lines.{bits_below, ready_word}
use Rattle.rules.specs.Table.{encode_with, encode, flat, thread_row, sem_row, kernel_row}
use Rattle.replay.proofs.fresh.Goals as goal

pub returns : goal.returns
unfolding fresh_table fresh bits_below ready_word encode_with encode flat thread_row sem_row kernel_row
returns c = refl
