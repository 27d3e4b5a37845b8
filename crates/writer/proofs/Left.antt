-- A block that is turned: where no piece of it is bad, all of its pieces are done, so what stands behind them is what is left over, and so the text
-- stops there exactly if a piece is bad or what is left over is too long. Assumes nothing.
use Rattle.std.specs.Prelude.{Option, None, Some}
use mathlib.Core.Path.{◌≡◌, refl, sym, ap, ◌∙◌}
use mathlib.Core.Bool.{Bool, true, false, ◌||◌}
use mathlib.Core.List.{List, []}
use Prim.Native.Nat.{ℕ, ◌-◌}
use native.Mathlib.Omega.{arith}
use lib.ListN.{length, length-drop, drop}
use lib.Seq.{drop_at, take_all}
use Rattle.laws.proofs.Split.{clash, or_false}
use Rattle.listing.specs.Listing.{cut, input_of, rule, each}
use Rattle.listing.specs.Parts.{part_of, is_bad, too_long, stops, holds}
use Rattle.writer.specs.Places.{place_after, Block}
use Rattle.listing.specs.declared.Way.{Way}
use Rattle.listing.proofs.Each.{each_all}
use Rattle.listing.proofs.Cuts.{cut_whole}
use Rattle.listing.proofs.InParts.{holds_come, holds_all}

not_bad : (b : Option ℕ) → is_bad b ≡ false → b ≡ None
not_bad None e = refl
not_bad (Some k) e = absurd (clash refl e)

module _ {w : Way} {come out out' : List ℕ} {done at : ℕ} {bad : Bool} (b : Block w come out out' done at bad) where
  all_done : bad ≡ false → at ≡ length (input_of w (cut w come).pieces)
  unfolding part_of place_after
  all_done e =
      let xs = (cut w come).pieces in
      let taken : (each (rule w) 0 xs []).bad ≡ None = not_bad (each (rule w) 0 xs []).bad (sym b.stop ∙ e) in
      b.place
      ∙ ap (λ (l : List (List ℕ)). length (input_of w l)) (take_all (length (each (rule w) 0 xs []).done) xs (omega (arith, each_all (rule w) 0 xs taken)))

  pub left_over_lem : bad ≡ false → drop at come ≡ (cut w come).rest
  left_over_lem e =
      ap (drop at) (sym (cut_whole w come)) ∙ drop_at (input_of w (cut w come).pieces) (cut w come).rest at (sym (all_done e))

  pub stops_known : bad || too_long w (length come - at) ≡ stops w come
  unfolding stops
  stops_known = go bad refl
    where
      go : (x : Bool) → bad ≡ x → x || too_long w (length come - at) ≡ is_bad (part_of w come).bad || too_long w (length (cut w come).rest)
      go true e = ap (λ (x : Bool). x || too_long w (length (cut w come).rest)) (sym e ∙ b.stop)
      go false e =
          let size : length come - at ≡ length (cut w come).rest = sym (length-drop at come) ∙ ap length (left_over_lem e) in
          ap (λ (k : ℕ). too_long w k) size ∙ ap (λ (x : Bool). x || too_long w (length (cut w come).rest)) (sym e ∙ b.stop)

  -- what the code asks
  module _ {bad' long : Bool} {at' n : ℕ} (same : bad' ≡ bad) (place : at' ≡ at) (size : n ≡ length come) (asked : long ≡ too_long w (n - at')) where
    pub stops_by : bad' || long ≡ stops w come
    stops_by = (λ i. same i || (asked ∙ (λ j. too_long w (size j - place j))) i) ∙ stops_known

    pub stopped_here : bad' || long ≡ true → come ≡ holds w come
    stopped_here e = sym (holds_come w come (sym stops_by ∙ e))

    pub went_on : bad' || long ≡ false → drop at' come ≡ holds w come
    went_on e =
        ap (λ (k : ℕ). drop k come) place
        ∙ left_over_lem (sym same ∙ (or_false bad' long e).0)
        ∙ sym (holds_all w come (sym stops_by ∙ e))
