-- `text::put_digits` ends because n / 10 is less than n from 10 on. Assumes nothing.
use Rattle.text.proofs.+put_digits.Given as goal

abbrev pub decreases-put_digits : goal.decreases-put_digits
decreases-put_digits l = l.n
