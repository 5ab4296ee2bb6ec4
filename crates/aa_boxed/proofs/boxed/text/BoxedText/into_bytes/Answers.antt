use Rattle.aa_boxed.proofs.{IsUtf8-had}
use Rattle.aa_boxed.proofs.boxed.text.BoxedText.into_bytes.Goals as goal

pub returns-clause-utf8 : goal.returns-clause-utf8
returns-clause-utf8 g c = IsUtf8-had _ c.self.inside.utf8
