use Rattle.std.proofs.Common.{refl}
use Rattle.fp_operators.proofs.Orders.{order_reverse, order_total, numbers_ascend, texts_ascend, at_most_either}
use Rattle.fp_operators.proofs.laws.order_laws.Goals as goal

pub returns : goal.returns
returns c = record {
  reverses = order_reverse;
  total = order_total;
  numbers = λ x y. refl;
  texts = λ s t. refl;
  numbers_ascend = numbers_ascend;
  texts_ascend = texts_ascend;
  at_most = at_most_either;
}
