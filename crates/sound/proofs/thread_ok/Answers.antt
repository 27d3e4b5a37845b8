-- `sound::thread_ok` meets its contract: each test that fails decides, and else the thread is noted; a free record is all zero. Assumes nothing.
use mathlib.Core.Path.{refl, ap, sym, ◌∙◌}
use borrow.Author.Tests.{not-true, not-false}
use Rattle.rules.specs.Lines.{line}
use Rattle.laws.proofs.Split.{clash}
use Rattle.marks.specs.Numbers.{line_number}
use Rattle.ready.specs.Word.{ready_bit}
use Rattle.sound.proofs.Noting.{room, notes}
use Rattle.sound.proofs.Threads.{used_number, decides_as, used_ends, zero_free, free_noted, free_ends}
use Rattle.sound.proofs.thread_ok.Goals as goal

pub returns-then-thread_zero : goal.returns-then-thread_zero
returns-then-thread_zero c s e old =
    let zero = c.if-thread_zero.true in (
      decides_as zero
          (free_ends _ s c.args.i c.requires.1 e c.requires.0 c.thread_zero.ensures (c.load_thread-th.ensures s e) (not-true _ c.if-not-th.true)),
      λ z. (
        free_noted _ s c.args.i c.requires.1 e c.requires.0 c.thread_zero.ensures old zero,
        sym (ap ready_bit (zero_free _ s c.args.i c.requires.1 e c.requires.0 c.thread_zero.ensures zero)),
      ),
    )

pub returns-else-thread_zero : goal.returns-else-thread_zero
returns-else-thread_zero c s e old = (
  decides_as c.if-thread_zero.false
      (free_ends _ s c.args.i c.requires.1 e c.requires.0 c.thread_zero.ensures (c.load_thread-th.ensures s e) (not-true _ c.if-not-th.true)),
  λ z. absurd (clash z refl),
)

pub number_of-requires : goal.number_of-requires
number_of-requires c = used_number c.requires.1 _ refl _ _ (not-false _ c.if-not-th.false) (sym (c.used_ok.ensures _ refl) ∙ c.if-not-used_ok.false)

pub returns : goal.returns
returns c s e old =
    let th = c.load_thread-th.ensures s e in (
      used_ends s c.args.i th (not-false _ c.if-not-th.false) (sym c.thread_canon.ensures ∙ c.if-not-thread_canon.false) (sym (c.used_ok.ensures s e) ∙ c.if-not-used_ok.false),
      λ z. (
        notes old (room c.requires.1 c.args.i c.requires.0) c.note.ensures.lines c.note.ensures.places (c.number_of.ensures ∙ ap (λ th. line_number (line th)) th) (ap (λ th. th.place) th),
        c.ready_bit.ensures ∙ ap ready_bit th,
      ),
    )
