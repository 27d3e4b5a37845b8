-- What the functions over the trace reader promise is tight. Assumes nothing.
use mathlib.Core.Path.{◌≡◌, refl, sym, ◌∙◌}
use Rattle.reader.specs.Reading.{read_at}
use Rattle.tight.specs.Readers.{Readers}

pub readers : Readers
readers = record {
  new = record {
    Says = λ κs a z e. (z.bytes ≡ a.0) × (z.at ≡ 0);
    says = λ M 𝓤 𝓛 mem run κs a g z e. refl;
    one = λ κs a z z' ws ws' p q. (λ j. record { bytes = (p.0 ∙ sym q.0) j; at = (p.1 ∙ sym q.1) j }, refl);
  };
  moved = record {
    Says = λ κs a z e. (z.bytes ≡ a.0.bytes) × (z.at ≡ a.1.0);
    says = λ M 𝓤 𝓛 mem run κs a g z e. refl;
    one = λ κs a z z' ws ws' p q. (λ j. record { bytes = (p.0 ∙ sym q.0) j; at = (p.1 ∙ sym q.1) j }, refl);
  };
  next = record {
    Says = λ κs a z e. z ≡ read_at a.0.bytes.now a.0.at;
    says = λ M 𝓤 𝓛 mem run κs a g z e. refl;
    one = λ κs a z z' ws ws' p q. (p ∙ sym q, refl);
  };
}
