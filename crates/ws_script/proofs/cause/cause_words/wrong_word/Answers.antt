use Rattle.ws_script.proofs.cause.cause_words.wrong_word.Goals as goal

pub returns-in-Number : goal.returns-in-Number
returns-in-Number c = λ line stands. c.wrong_number.ensures c.args.vocabulary line stands

pub returns-in-Opcode : goal.returns-in-Opcode
returns-in-Opcode c = λ line stands. c.wrong_opcode.ensures c.args.vocabulary line stands

pub returns-in-AnyOpcode : goal.returns-in-AnyOpcode
returns-in-AnyOpcode c = λ line stands. c.wrong_opcode-in-AnyOpcode.ensures c.args.vocabulary line stands

pub returns-in-Digits : goal.returns-in-Digits
returns-in-Digits c = λ line stands. c.wrong_digits.ensures c.args.vocabulary line stands

pub returns-in-Hex : goal.returns-in-Hex
returns-in-Hex c = λ line stands. c.wrong_hex.ensures c.args.vocabulary line stands

pub returns-in-Value : goal.returns-in-Value
returns-in-Value c = λ line stands. c.wrong_value.ensures c.args.vocabulary line stands

pub returns-in-Cells : goal.returns-in-Cells
returns-in-Cells c = λ line stands. c.wrong_cells.ensures c.args.vocabulary line stands
