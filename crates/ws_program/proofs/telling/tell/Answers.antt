use Rattle.ws_program.proofs.telling.tell.Goals as goal

pub returns-in-Check : goal.returns-in-Check
returns-in-Check g c = rw c.in-Check.is c.check_to.ensures

pub returns-in-CheckAll : goal.returns-in-CheckAll
returns-in-CheckAll g c = rw c.in-CheckAll.is c.check_all_to.ensures

pub returns-in-Show : goal.returns-in-Show
returns-in-Show g c = rw c.in-Show.is c.show_body_to.ensures

pub returns-in-ShowAll : goal.returns-in-ShowAll
returns-in-ShowAll g c = rw c.in-ShowAll.is c.show_all.ensures
