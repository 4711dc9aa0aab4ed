mod OnItsWay
