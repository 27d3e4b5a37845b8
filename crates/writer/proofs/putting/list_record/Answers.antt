-- `writer::putting::list_record` meets its contract: nothing of a record that −8 refuses, and of any other the line of its fields. Assumes nothing.
use mathlib.Core.Path.{refl, sym}
use mathlib.Core.List.{append-nil}
use native.Mathlib.Omega.{arith}
use Rattle.writer.proofs.Lines.{refused_text, is_record, not_unknown, taken_text}
use Rattle.writer.proofs.putting.list_record.Goals as goal

pub returns-in_err-decode-clause-asks : goal.returns-in_err-decode-clause-asks
returns-in_err-decode-clause-asks g c = rw (c.from_residual.ensures, refused_text c.args.«record».now (sym c.in_err-decode.ensures)) refl

pub returns-in_err-decode-clause-puts : goal.returns-in_err-decode-clause-puts
returns-in_err-decode-clause-puts g c = rw (refused_text c.args.«record».now (sym c.in_err-decode.ensures)) (sym (append-nil c.args.out.now))

pub bounds-record-0 : goal.bounds-record-0
bounds-record-0 g c = omega (arith, is_record c.args.«record».now (sym c.in_ok-decode.ensures))

pub bounds-record-1 : goal.bounds-record-1
bounds-record-1 g c = omega (arith, is_record c.args.«record».now (sym c.in_ok-decode.ensures))

pub bounds-record-2 : goal.bounds-record-2
bounds-record-2 g c = omega (arith, is_record c.args.«record».now (sym c.in_ok-decode.ensures))

pub word_at-requires : goal.word_at-requires
word_at-requires g c = omega (arith, is_record c.args.«record».now (sym c.in_ok-decode.ensures))

pub word_at-requires-2 : goal.word_at-requires-2
word_at-requires-2 g c = omega (arith, is_record c.args.«record».now (sym c.in_ok-decode.ensures))

pub returns-in_err-uses-clause-asks : goal.returns-in_err-uses-clause-asks
returns-in_err-uses-clause-asks g c = absurd (not_unknown c.args.«record».now (sym c.in_ok-decode.ensures) c.in_err-uses.ensures)

pub returns-in_err-uses-clause-puts : goal.returns-in_err-uses-clause-puts
returns-in_err-uses-clause-puts g c = absurd (not_unknown c.args.«record».now (sym c.in_ok-decode.ensures) c.in_err-uses.ensures)

pub returns-clause-asks : goal.returns-clause-asks
returns-clause-asks g c = rw (taken_text c.args.«record».now (sym c.in_ok-decode.ensures) c.in_ok-uses.uses c.in_ok-uses.ensures) refl

pub returns-clause-puts : goal.returns-clause-puts
returns-clause-puts g c = rw (taken_text c.args.«record».now (sym c.in_ok-decode.ensures) c.in_ok-uses.uses c.in_ok-uses.ensures, ← c.word_at.ensures, ← c.word_at-2.ensures) c.put_text.ensures.puts
