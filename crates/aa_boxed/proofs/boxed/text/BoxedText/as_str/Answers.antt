use Rattle.aa_boxed.proofs.{IsUtf8, IsUtf8-had, subst, sym}
use Rattle.aa_boxed.proofs.boxed.text.BoxedText.as_str.Goals as goal

pub from_utf8_unchecked-requires : goal.from_utf8_unchecked-requires
from_utf8_unchecked-requires g c =
    subst IsUtf8 (sym c.as_slice.ensures) (IsUtf8-had _ c.self.inside.utf8)
