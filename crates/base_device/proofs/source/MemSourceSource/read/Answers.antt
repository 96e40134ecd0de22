use Rattle.std.proofs.Common.{ap, arith}
use Rattle.std.proofs.lemmas.List.{take_rest}
use Rattle.base_device.specs.InMemory.{MemorySource}
use Rattle.base_device.proofs.ReadRest.{read_rest}
use Rattle.base_device.proofs.source.MemSourceSource.read.Goals as goal

pub returns-clause-bytes : goal.returns-clause-bytes
returns-clause-bytes c =
    let bytes = c.self.inside.bytes.items in
    let tail = take_rest bytes c.self.inside.at in
    read_rest bytes _ _ _ c.self.inside.at c.copy-count.result _ (ap (λ (s : MemorySource). s.left) c.self.view_is) (cc) c.copy-count.ensures.front (λ none some. c.copy-count.ensures.end none (omega arith))
